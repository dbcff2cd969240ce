-- Where the runs of nodes that pass by a role end.
use Rattle.std.proofs.Common.{◌≡◌, ◌≢◌, inl, inr, ℕ, ◌+◌, ◌<◌, ◌≤◌, Bool, true, false, List, [], ◌∷◌, length, set, get_or, Some, slice_get, refl, sym, ap, ◌∙◌, subst, arith, if◌then◌else◌}
use Rattle.std.proofs.lemmas.Bool.{cases_lt}
use Rattle.std.proofs.lemmas.Bool.Decides.{eqb_tells}
use Rattle.std.proofs.lemmas.List.{get_or-set_same, get_or-set_other, length-set}
use Rattle.rs_model.specs.Data.{Protocol_data}
use Rattle.rs_model.specs.declared.graph.Arm.{Arm}
use Rattle.rs_model.specs.declared.graph.Node.{Node}
use Rattle.rs_model.specs.declared.graph.Node.TheVariants.{Finished, Talk}
use Rattle.rs_model.specs.declared.graph.Role.{Role}
use Rattle.rs_wellformed.specs.WellFormed.{IsWellFormed}
use Rattle.rs_project.specs.Graph.{PathStep, LeadsTo, IsPath, Involves, PassesBy, AllPassBy, MeetsFirst, MeetsTheEnd}
use Rattle.rs_graph.specs.Lists.{Among}
use Rattle.rs_project.specs.Marks.{AreRunEnds, GoesOn, HasEnd, StandsFor, arms_of_node, have_end, nexts_of_node}
use Rattle.rs_project.specs.Numbered.{nexts_of}
use Rattle.rs_project.proofs.Cycles.{next_within}
use Rattle.rs_project.proofs.Spread.{among_leads, leads_among, step_of}

pub stands_itself : (pr : Protocol_data) (role : Role) (n : ℕ) → StandsFor pr role n n
stands_itself pr role n = record { meets = λ t. ((λ m. m), (λ m. m)); ends = ((λ e. e), (λ e. e)) }

pub stands_via : (pr : Protocol_data) (role : Role) (n mid end : ℕ) → StandsFor pr role n mid → StandsFor pr role mid end → StandsFor pr role n end
stands_via pr role n mid end a b = record {
  meets = λ t. ((λ m. (b.meets t).0 ((a.meets t).0 m)), (λ m. (a.meets t).1 ((b.meets t).1 m)));
  ends = ((λ e. b.ends.0 (a.ends.0 e)), (λ e. a.ends.1 (b.ends.1 e)));
}

-- where the role meets the same after all arms of a node that passes by it, it meets that from the node
pub stands_behind : (pr : Protocol_data) (role : Role) (n first end : ℕ) (node : Node) → PassesBy pr role n → slice_get pr.nodes n ≡ Some node → Among (nexts_of_node node) first
    → ((next : ℕ) → Among (nexts_of_node node) next → StandsFor pr role next end) → StandsFor pr role n end
stands_behind pr role n first end node passes is some all = record {
  meets = λ t. ((λ m. on t m), (λ m. back t m));
  ends = ((λ e. end_on e), (λ e. end_back e));
}
  where
    goes : (place : ℕ) × LeadsTo pr n place first
    goes = among_leads pr n first node is some

    on : (t : ℕ) → MeetsFirst pr role n t → MeetsFirst pr role end t
    on t m = go m.steps m.path m.earlier
      where
        go : (ss : List PathStep) → IsPath pr n ss t → AllPassBy pr role ss → MeetsFirst pr role end t
        go [] path earlier = let P : ℕ → Type 0 = λ z. Involves pr role z in absurd (passes.uninvolved (subst P (sym path) m.involved))
        go (a ∷ ss) path earlier = ((all path.0 (leads_among pr n a.place path.0 node is path.2)).meets t).0 (record { steps = ss; path = path.3; earlier = earlier.1; involved = m.involved })

    back : (t : ℕ) → MeetsFirst pr role end t → MeetsFirst pr role n t
    back t m = let k = ((all first some).meets t).1 m in record { steps = step_of n goes.0 ∷ k.steps; path = (first, refl, goes.1, k.path); earlier = (passes, k.earlier); involved = k.involved }

    end_on : MeetsTheEnd pr role n → MeetsTheEnd pr role end
    end_on m = go m.steps m.path m.earlier
      where
        go : (ss : List PathStep) → IsPath pr n ss m.last → AllPassBy pr role ss → MeetsTheEnd pr role end
        go [] path earlier = absurd (passes.awaited (λ talk reached i. (let P : ℕ → Type 0 = λ z. (ss : List PathStep) × IsPath pr z ss talk in m.idle talk (subst P path reached) i)))
        go (a ∷ ss) path earlier = (all path.0 (leads_among pr n a.place path.0 node is path.2)).ends.0 (record { steps = ss; last = m.last; path = path.3; earlier = earlier.1; idle = m.idle })

    end_back : MeetsTheEnd pr role end → MeetsTheEnd pr role n
    end_back m = let k = (all first some).ends.1 m in record { steps = step_of n goes.0 ∷ k.steps; last = k.last; path = (first, refl, goes.1, k.path); earlier = (passes, k.earlier); idle = k.idle }

same_end : (ends : List ℕ) (end : ℕ) (arms : List Arm) → have_end ends end arms ≡ true → (next : ℕ) → Among (nexts_of arms) next → get_or ends next 0 ≡ end
same_end ends end [] h next m = absurd m
same_end ends end (a ∷ arms) h next m =
    let P : Bool → Type 0 = λ b. (if b then have_end ends end arms else false) ≡ true in
    elim (eqb_tells (get_or ends a.next 0) end) [
      | inl p ↦ elim m [
        | inl e ↦ ap (λ (z : ℕ). get_or ends z 0) (sym e) ∙ p.1
        | inr k ↦ same_end ends end arms (subst P p.0 h) next k
      ]
      | inr p ↦ (let bad : false ≡ true = subst P p.0 h in absurd (cc (bad)))
    ]

first_next : (arms : List Arm) → arms ≢ [] → (next : ℕ) × Among (nexts_of arms) next
first_next [] some = absurd (some refl)
first_next (a ∷ arms) some = (a.next, inl refl)

-- none is told of yet
pub no_ends : (pr : Protocol_data) (role : Role) (ends : List ℕ) → length ends ≡ length pr.nodes → AreRunEnds pr role (length pr.nodes) ends
no_ends pr role ends size = record {
  size = size;
  within = λ n from h. absurd (let bad : ⊥ = omega (arith, from, h) in bad);
  stands = λ n from h. absurd (let bad : ⊥ = omega (arith, from, h) in bad);
}

set_end : (pr : Protocol_data) (role : Role) (from from' : ℕ) (ends : List ℕ) (n end : ℕ) → end < length pr.nodes → StandsFor pr role n end → ((m : ℕ) → from' ≤ m → (m ≡ n → ⊥) → from ≤ m)
    → AreRunEnds pr role from ends → AreRunEnds pr role from' (set ends n end)
set_end pr role from from' ends n end within stands others runs = record {
  size = length-set ends n end ∙ runs.size;
  within = λ m f h. elim (eqb_tells m n) [
    | inl p ↦ (let e = here m p.1 h in omega (arith, e, within))
    | inr p ↦ (let e = get_or-set_other ends n m end 0 p.1 in let w = runs.within m (others m f p.1) h in omega (arith, e, w))
  ];
  stands = λ m f h. (let P : ℕ → Type 0 = λ z. StandsFor pr role m z in elim (eqb_tells m n) [
    | inl p ↦ (let Q : ℕ → Type 0 = λ z. StandsFor pr role z end in subst P (sym (here m p.1 h)) (subst Q (sym p.1) stands))
    | inr p ↦ subst P (sym (get_or-set_other ends n m end 0 p.1)) (runs.stands m (others m f p.1) h)
  ]);
}
  where
    here : (m : ℕ) → m ≡ n → m < length pr.nodes → get_or (set ends n end) m 0 ≡ end
    here m e h = let s = runs.size in ap (λ (z : ℕ). get_or (set ends n end) z 0) e ∙ get_or-set_same ends n end 0 (omega (arith, e, h, s))

-- the run from one more node ends there
pub own_end : (pr : Protocol_data) (role : Role) (ends : List ℕ) (n : ℕ) → n < length pr.nodes → AreRunEnds pr role (n + 1) ends → AreRunEnds pr role n (set ends n n)
own_end pr role ends n h runs = set_end pr role (n + 1) n ends n n h (stands_itself pr role n) (λ m f ne. after m f ne) runs
  where
    after : (m : ℕ) → n ≤ m → (m ≡ n → ⊥) → n + 1 ≤ m
    after m f ne = elim (cases_lt n m) [ inl k ↦ omega (arith, k) | inr k ↦ absurd (ne (omega (arith, f, k))) ]

-- the run goes on after the node
run_on : (pr : Protocol_data) (role : Role) (from : ℕ) (ends : List ℕ) (n end : ℕ) (node : Node) → IsWellFormed pr → PassesBy pr role n → slice_get pr.nodes n ≡ Some node → HasEnd ends end (arms_of_node node)
    → ((next : ℕ) → Among (nexts_of_node node) next → from ≤ next) → AreRunEnds pr role from ends → AreRunEnds pr role from (set ends n end)
run_on pr role from ends n end Finished wf passes is has behind runs = absurd (has.0 refl)
run_on pr role from ends n end (Talk sender receiver arms) wf passes is has behind runs =
    let node : Node = Talk sender receiver arms in
    let first = first_next arms has.0 in
    let fits : (next : ℕ) → Among (nexts_of arms) next → next < length pr.nodes = λ next m. (let g = among_leads pr n next node is m in next_within pr n g.0 next wf g.1) in
    let w = runs.within first.0 (behind first.0 first.1) (fits first.0 first.1) in
    let e = same_end ends end arms has.1 first.0 first.1 in
    set_end pr role from from ends n end (omega (arith, w, e))
    (stands_behind pr role n first.0 end node passes is first.1
    (λ next m. (let P : ℕ → Type 0 = λ z. StandsFor pr role next z in subst P (same_end ends end arms has.1 next m) (runs.stands next (behind next m) (fits next m)))))
    (λ m f ne. f) runs

pub gone_on_run : (pr : Protocol_data) (role : Role) (from : ℕ) (ends ends' : List ℕ) (n : ℕ) (node : Node) → IsWellFormed pr → PassesBy pr role n → slice_get pr.nodes n ≡ Some node
    → ((next : ℕ) → Among (nexts_of_node node) next → from ≤ next) → GoesOn (arms_of_node node) n ends ends' → AreRunEnds pr role from ends → AreRunEnds pr role from ends'
gone_on_run pr role from ends ends' n node wf passes is behind goes runs =
    let P : List ℕ → Type 0 = λ z. AreRunEnds pr role from z in
    elim goes [
      | inl e ↦ subst P (sym e) runs
      | inr g ↦ subst P (sym g.2) (run_on pr role from ends n g.0 node wf passes is g.1 behind runs)
    ]
