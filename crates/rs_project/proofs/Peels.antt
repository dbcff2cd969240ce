-- Nodes that aren't unreached, by what they lead to.
use Rattle.std.proofs.Common.{◌≡◌, ◌≢◌, inl, inr, ℕ, zero, suc, ◌-◌, ◌<◌, ◌≤◌, Bool, true, false, List, [], ◌∷◌, ◌++◌, length, get_or, set, Some, slice_get, refl, sym, ◌∙◌, subst, arith}
use Rattle.std.proofs.lemmas.List.{length-set, get_or_default, get_or-set_other}
use Rattle.std.proofs.lemmas.Bool.{cases_lt}
use Rattle.std.proofs.lemmas.Bool.Decides.{eqb_tells}
use Rattle.rs_model.specs.Data.{Protocol_data}
use Rattle.rs_model.specs.declared.graph.Node.{Node}
use Rattle.rs_model.specs.declared.graph.Role.{Role}
use Rattle.rs_project.specs.Graph.{PathStep, LeadsTo, IsPath, PassesBy, AllPassBy, IsUnreached}
use Rattle.rs_project.specs.Marks.{IsOn, HasUnreached, IsSurvey, Survey_data, leads_on}
use Rattle.rs_project.proofs.Cycles.{passes_unreached}
use Rattle.rs_project.proofs.Spread.{step_of, path_snoc}
use Rattle.rs_project.proofs.Surveys.{leads_on_by}

around_snoc : (pr : Protocol_data) (role : Role) (ss : List PathStep) (h a : ℕ) → AllPassBy pr role ss → PassesBy pr role h → AllPassBy pr role (ss ++ (step_of h a ∷ []))
around_snoc pr role [] h a all one = (one, tt)
around_snoc pr role (s ∷ ss) h a all one = (all.0, around_snoc pr role ss h a all.1 one)

snoc_some : (ss : List PathStep) (s : PathStep) → (ss ++ (s ∷ [])) ≢ []
snoc_some [] s e = cc (e)
snoc_some (t ∷ ss) s e = cc (e)

-- an unreached node leads to another one
pub onward : (pr : Protocol_data) (role : Role) (n : ℕ) → IsUnreached pr role n → (place : ℕ) × (next : ℕ) × LeadsTo pr n place next × IsUnreached pr role next
onward pr role n u = go u.steps u.some u.cycle u.around
  where
    go : (ss : List PathStep) → ss ≢ [] → IsPath pr n ss n → AllPassBy pr role ss → (place : ℕ) × (next : ℕ) × LeadsTo pr n place next × IsUnreached pr role next
    go [] ne path around = absurd (ne refl)
    go (s ∷ ss) ne path around =
        let P : ℕ → Type 0 = λ z. PassesBy pr role z in (
          s.place,
          path.0,
          path.2,
          record {
            reached = (u.reached.0 ++ (step_of n s.place ∷ []), path_snoc pr u.reached.0 pr.root n s.place path.0 u.reached.1 path.2);
            steps = ss ++ (step_of n s.place ∷ []);
            some = snoc_some ss (step_of n s.place);
            cycle = path_snoc pr ss path.0 n s.place path.0 path.3 path.2;
            around = around_snoc pr role ss n s.place around.1 (subst P path.1 around.0);
          },
        )

pub off_before : (flags : List Bool) (x n : ℕ) → IsOn (set flags x false) n → IsOn flags n
off_before [] x n h = absurd (cc (h))
off_before (b ∷ bs) zero zero h = absurd (cc (h))
off_before (b ∷ bs) zero (suc n) h = h
off_before (b ∷ bs) (suc x) zero h = h
off_before (b ∷ bs) (suc x) (suc n) h = off_before bs x n h

pub unreached_less : (pr : Protocol_data) (role : Role) (flags : List Bool) (n : ℕ) (node : Node) → slice_get pr.nodes n ≡ Some node → leads_on flags node ≡ false → HasUnreached pr role flags
    → HasUnreached pr role (set flags n false)
unreached_less pr role flags n node is ends has = record {
  size = length-set flags n false ∙ has.size;
  whole = λ m u. elim (eqb_tells m n) [
    | inl p ↦ (let o = onward pr role m u in
        let P : ℕ → Type 0 = λ z. LeadsTo pr z o.0 o.1 in
        let on = leads_on_by pr flags n o.0 o.1 node is (subst P p.1 o.2) (has.whole o.1 o.3) in
        absurd (cc (on, ends)))
    | inr p ↦ get_or-set_other flags n m false false p.1 ∙ has.whole m u
  ];
}

-- the passing nodes have all unreached ones among them
pub unreached_pass : (pr : Protocol_data) (role : Role) (survey : Survey_data) (flags : List Bool) → IsSurvey pr role survey → flags ≡ survey.passing → HasUnreached pr role flags
unreached_pass pr role survey flags is e = subst (λ (z : List Bool). HasUnreached pr role z) (sym e) (record {
  size = is.passing_size;
  whole = λ n u. (is.passing n).1 (passes_unreached pr role n u);
})

-- no node from `number` on is flagged, where none after it was and it isn't
pub none_from : (flags less : List Bool) (number : ℕ) (b : Bool) → 0 < number → number ≤ length less → b ≡ get_or less (number - 1) b → b ≡ false → ((n : ℕ) → IsOn less n → IsOn flags n)
    → ((n : ℕ) → number ≤ n → IsOn flags n → ⊥)
    → (n : ℕ) → number - 1 ≤ n → IsOn less n → ⊥
none_from flags less number b some within is off fewer none n le on = elim (cases_lt (number - 1) n) [
  | inl below ↦ none n (omega (arith, below, some)) (fewer n on)
  | inr above ↦ (let q : n ≡ number - 1 = omega (arith, above, le) in
      let P : ℕ → Type 0 = λ z. IsOn less z in
      let here : get_or less (number - 1) false ≡ true = subst P q on in
      let there : b ≡ get_or less (number - 1) false = is ∙ get_or_default less (number - 1) b false (omega (arith, some, within)) in
      absurd (cc (here, there, off)))
]
