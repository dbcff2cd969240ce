-- Nodes that are unreached.
use Rattle.std.proofs.Common.{◌≡◌, ◌≢◌, inl, inr, ℕ, zero, suc, ◌+◌, ◌<◌, ◌≤◌, Bool, true, false, ◌&&◌, List, [], ◌∷◌, length, replicate, get_or, Some, slice_get, refl, sym, ◌∙◌, subst, arith}
use Rattle.std.specs.List.{All}
use Rattle.std.proofs.lemmas.Bool.{cases_lt}
use Rattle.rs_model.specs.Data.{Protocol_data}
use Rattle.rs_model.specs.declared.graph.Node.{Node}
use Rattle.rs_model.specs.declared.graph.Role.{Role}
use Rattle.rs_wellformed.specs.WellFormed.{IsWellFormed}
use Rattle.rs_project.specs.Graph.{PathStep, LeadsTo, IsPath, IsReached, PassesBy, AllPassBy, IsUnreached}
use Rattle.rs_graph.specs.Lists.{Among}
use Rattle.rs_project.specs.Marks.{IsOn, AllOn, IsSpread, IsSurvey, Survey_data, IsLive, nexts_of_node}
use Rattle.rs_project.proofs.Flags.{on_within, all_on}
use Rattle.rs_project.proofs.Lists.{at_short}
use Rattle.rs_project.proofs.Spread.{step_of, among_leads, leads_among}

-- one can come from node n back to it through nodes that pass by the role
pub record GoesRound (protocol : Protocol_data) (role : Role) (n : ℕ) : Type 0 where
  pub steps : List PathStep
  pub some : steps ≢ []
  pub cycle : IsPath protocol n steps n
  pub around : AllPassBy protocol role steps

pub all_by : (P : ℕ → Type 0) (xs : List ℕ) → ((x : ℕ) → Among xs x → P x) → All P xs
all_by P [] f = λ k d h. absurd (omega (arith, h))
all_by P (x ∷ xs) f = at (all_by P xs (λ y m. f y (inr m)))
  where
    at : All P xs → (k d : ℕ) → k < suc (length xs) → P (get_or (x ∷ xs) k d)
    at rest zero d h = f x (inl refl)
    at rest (suc k) d h = rest k d (omega arith)

pub next_within : (pr : Protocol_data) (n place next : ℕ) → IsWellFormed pr → LeadsTo pr n place next → next < length pr.nodes
next_within pr n place next wf goes =
    let w = (wf.talks n goes.sender goes.receiver goes.arms goes.talks).nexts place goes.arm goes.stands in
    let l = goes.leads in
    omega arith

pub nexts_within : (pr : Protocol_data) (n : ℕ) (node : Node) → IsWellFormed pr → slice_get pr.nodes n ≡ Some node → All (λ s. s < length pr.nodes) (nexts_of_node node)
nexts_within pr n node wf is = all_by (λ s. s < length pr.nodes) (nexts_of_node node) (λ x m. (let r = among_leads pr n x node is m in next_within pr n r.0 x wf r.1))

pub passing_steps : (pr : Protocol_data) (role : Role) (sv : Survey_data) → IsSurvey pr role sv → (ss : List PathStep) → AllOn sv.passing ss → AllPassBy pr role ss
passing_steps pr role sv is [] all = tt
passing_steps pr role sv is (s ∷ ss) all = ((is.passing s.node).0 all.0, passing_steps pr role sv is ss all.1)

pub flagged_steps : (pr : Protocol_data) (role : Role) (sv : Survey_data) → IsSurvey pr role sv → (ss : List PathStep) → AllPassBy pr role ss → AllOn sv.passing ss
flagged_steps pr role sv is [] all = tt
flagged_steps pr role sv is (s ∷ ss) all = ((is.passing s.node).1 all.0, flagged_steps pr role sv is ss all.1)

not_nil : (s : PathStep) (ss : List PathStep) → (s ∷ ss) ≢ []
not_nil s ss e = cc (e)

pub round_found : (pr : Protocol_data) (role : Role) (sv : Survey_data) (n : ℕ) (node : Node) (marks : List Bool) → IsSurvey pr role sv → slice_get pr.nodes n ≡ Some node → IsOn sv.passing n
    → IsSpread pr sv.passing (nexts_of_node node) marks → IsOn marks n → GoesRound pr role n
round_found pr role sv n node marks is at on sp h =
    let w = sp.sound n h in
    let g = among_leads pr n w.start node at w.among in
    record {
      steps = step_of n g.0 ∷ w.steps;
      some = not_nil (step_of n g.0) w.steps;
      cycle = (w.start, refl, g.1, w.path);
      around = ((is.passing n).0 on, passing_steps pr role sv is w.steps w.earlier);
    }

pub round_marked : (pr : Protocol_data) (role : Role) (sv : Survey_data) (n : ℕ) (node : Node) (marks : List Bool) → IsSurvey pr role sv → slice_get pr.nodes n ≡ Some node
    → IsSpread pr sv.passing (nexts_of_node node) marks → GoesRound pr role n → IsOn marks n
round_marked pr role sv n node marks is at sp r = go r.steps r.some r.cycle r.around
  where
    go : (ss : List PathStep) → ss ≢ [] → IsPath pr n ss n → AllPassBy pr role ss → IsOn marks n
    go [] ne path around = absurd (ne refl)
    go (s ∷ ss) ne path around = sp.whole n record {
      start = path.0;
      among = leads_among pr n s.place path.0 node at path.2;
      steps = ss;
      path = path.3;
      earlier = flagged_steps pr role sv is ss around.1;
    }

every_step : (pr : Protocol_data) (ss : List PathStep) (g n : ℕ) → IsPath pr g ss n → AllOn (replicate (length pr.nodes) true) ss
every_step pr [] g n path = tt
every_step pr (s ∷ ss) g n path =
    let P : ℕ → Type 0 = λ z. IsOn (replicate (length pr.nodes) true) z in
    (subst P (sym path.1) (all_on (length pr.nodes) g (at_short pr.nodes g _ path.2.talks)), every_step pr ss path.0 n path.3)

pub and_split : (a b : Bool) → (a && b) ≡ true → (a ≡ true) × (b ≡ true)
and_split true b h = (refl, h)
and_split false b h = absurd (cc (h))

pub and_join : (a b : Bool) → a ≡ true → b ≡ true → (a && b) ≡ true
and_join true b h k = k
and_join false b h k = absurd (cc (h))

pub is_live : (pr : Protocol_data) (role : Role) (sv : Survey_data) (every reached live : List Bool) → IsSurvey pr role sv → every ≡ replicate (length pr.nodes) true
    → IsSpread pr every (pr.root ∷ []) reached → length live ≡ length reached
    → ((n : ℕ) → n < length reached → get_or live n false ≡ (get_or reached n false && get_or sv.passing n false)) → IsLive pr role live
is_live pr role sv every reached live is e sp size each = record {
  size = size ∙ sp.size;
  reached = λ n h. (let w = sp.sound n (both n h).0 in elim w.among [
    | inl k ↦ (let P : ℕ → Type 0 = λ z. IsPath pr z w.steps n in (w.steps, subst P (sym k) w.path))
    | inr k ↦ absurd k
  ]);
  passing = λ n h. (is.passing n).0 (both n h).1;
  whole = λ n r p.
      let P : List Bool → Type 0 = λ z. AllOn z r.0 in
      let o = sp.whole n record { start = pr.root; among = inl refl; steps = r.0; path = r.1; earlier = subst P (sym e) (every_step pr r.0 pr.root n r.1) } in
      each n (on_within reached n o) ∙ and_join (get_or reached n false) (get_or sv.passing n false) o ((is.passing n).1 p);
}
  where
    both : (n : ℕ) → IsOn live n → IsOn reached n × IsOn sv.passing n
    both n h = let w = on_within live n h in and_split (get_or reached n false) (get_or sv.passing n false) (sym (each n (omega (arith, w, size))) ∙ h)

pub unreached_by : (pr : Protocol_data) (role : Role) (n : ℕ) → IsReached pr n → GoesRound pr role n → IsUnreached pr role n
unreached_by pr role n r g = record { reached = r; steps = g.steps; some = g.some; cycle = g.cycle; around = g.around }

pub round_of : (pr : Protocol_data) (role : Role) (n : ℕ) → IsUnreached pr role n → GoesRound pr role n
round_of pr role n u = record { steps = u.steps; some = u.some; cycle = u.cycle; around = u.around }

pub passes_unreached : (pr : Protocol_data) (role : Role) (n : ℕ) → IsUnreached pr role n → PassesBy pr role n
passes_unreached pr role n u = go u.steps u.some u.cycle u.around
  where
    go : (ss : List PathStep) → ss ≢ [] → IsPath pr n ss n → AllPassBy pr role ss → PassesBy pr role n
    go [] ne path around = absurd (ne refl)
    go (s ∷ ss) ne path around = let P : ℕ → Type 0 = λ z. PassesBy pr role z in subst P path.1 around.0

pub least_so_far : (pr : Protocol_data) (role : Role) (m : ℕ) → ((n : ℕ) → n < m → IsUnreached pr role n → ⊥) → (n : ℕ) → IsUnreached pr role n → m ≤ n
least_so_far pr role m none n u = elim (cases_lt n m) [ inl k ↦ absurd (none n k u) | inr k ↦ omega (arith, k) ]

pub none_more : (pr : Protocol_data) (role : Role) (m : ℕ) → ((n : ℕ) → n < m → IsUnreached pr role n → ⊥) → (IsUnreached pr role m → ⊥) → (n : ℕ) → n < m + 1 → IsUnreached pr role n → ⊥
none_more pr role m none here n h u = elim (cases_lt n m) [
  | inl k ↦ none n k u
  | inr k ↦ (let e : n ≡ m = omega (arith, k, h) in let P : ℕ → Type 0 = λ z. IsUnreached pr role z in here (subst P e u))
]

pub none_at_all : (pr : Protocol_data) (role : Role) (m : ℕ) → length pr.nodes ≤ m → ((n : ℕ) → n < m → IsUnreached pr role n → ⊥) → (n : ℕ) → IsUnreached pr role n → ⊥
none_at_all pr role m size none n u = go u.steps u.some u.cycle
  where
    go : (ss : List PathStep) → ss ≢ [] → IsPath pr n ss n → ⊥
    go [] ne path = ne refl
    go (s ∷ ss) ne path = none n (let w = at_short pr.nodes n _ path.2.talks in omega (arith, w, size)) u
