-- What the search may cost for a machine that sends ahead of a choice.
use Rattle.std.proofs.Common.{◌≡◌, inl, inr, ℕ, zero, suc, ◌+◌, ◌*◌, ◌≤◌, List, [], ◌∷◌, length, Some, Result, Ok, Err, OnOk, refl, sym, ap, ◌∙◌, subst, arith}
use Rattle.std.proofs.lemmas.List.Sums.{sum_by-cons}
use Rattle.std.specs.List.{sum_by}
use Rattle.rs_derive.specs.Derivations.{IsProper}
use Rattle.rs_derive.specs.Moves.{Spot, spot}
use Rattle.rs_graph.proofs.Growth.{at_in, no_more}
use Rattle.rs_graph.specs.Discovery.{Reached, Begin, Step}
use Rattle.rs_graph.specs.Lists.{Among}
use Rattle.rs_graph.specs.Order.{Once}
use Rattle.rs_model.proofs.Faults.{no_fault}
use Rattle.rs_model.specs.Data.{Machine_data}
use Rattle.rs_model.specs.Faults.{first_fault}
use Rattle.rs_model.specs.declared.machines.Act.{Act}
use Rattle.rs_model.specs.declared.machines.Act.TheVariants as act
use Rattle.rs_model.specs.declared.values.Sort.TheVariants as sort
use Rattle.rs_search.proofs.Verdicts.{from_candidate}
use Rattle.rs_search.specs.Candidates.{start_spot}
use Rattle.rs_search.specs.Costs.{IsWithinCost}
use Rattle.rs_search.specs.Turns.{nexts_within}
use Rattle.low_trials.specs.Guessing.{chooses, sends_ahead}

-- ---- both machines are well formed

pub ours_proper : IsProper sends_ahead
unfolding first_fault
ours_proper = (3, no_fault sends_ahead 3 refl)

pub theirs_proper : IsProper chooses
unfolding first_fault
theirs_proper = (3, no_fault chooses 3 refl)

-- ---- a sum over items of which none stands twice, all in another list, is no more than the sum over that

abbrev but : {X : Type 0} (ys : List X) (x : X) → Among ys x → List X
but [] x h = []
but (y ∷ ys) x (inl e) = ys
but (y ∷ ys) x (inr h) = y ∷ but ys x h

weighs : {X : Type 0} (f : X → ℕ) (ys : List X) (x : X) (h : Among ys x) → sum_by f ys ≡ f x + sum_by f (but ys x h)
weighs f [] x h = absurd h
weighs f (y ∷ ys) x (inl e) = sum_by-cons f y ys ∙ ap (λ z. f z + sum_by f ys) e
weighs f (y ∷ ys) x (inr h) =
    let a = sum_by-cons f y ys in
    let b = sum_by-cons f y (but ys x h) in
    let r = weighs f ys x h in
    omega (arith, a, b, r)

others : {X : Type 0} (ys : List X) (x z : X) (h : Among ys x) → (x ≡ z → ⊥) → Among ys z → Among (but ys x h) z
others [] x z h ne m = absurd m
others (y ∷ ys) x z (inl e) ne (inl f) = absurd (ne (sym e ∙ f))
others (y ∷ ys) x z (inl e) ne (inr m) = m
others (y ∷ ys) x z (inr h) ne (inl f) = inl f
others (y ∷ ys) x z (inr h) ne (inr m) = inr (others ys x z h ne m)

sum_less : {X : Type 0} (f : X → ℕ) (xs ys : List X) → Once xs → ((x : X) → Among xs x → Among ys x) → sum_by f xs ≤ sum_by f ys
sum_less f [] ys once all = omega arith
sum_less f (x ∷ xs) ys once all =
    let h = all x (inl refl) in
    let a = sum_by-cons f x xs in
    let w = weighs f ys x h in
    let r = sum_less f xs (but ys x h) (λ i j z p q. (let e = once (suc i) (suc j) z p q in omega (arith, e)))
    (λ z m. others ys x z h (λ e. (let s = at_in xs z m in let b = once zero (suc s.0) z (ap Some e) s.1 in let bad : ⊥ = omega (arith, b) in bad)) (all z (inr m))) in
    omega (arith, a, w, r)

-- ---- the candidates

abbrev owes : ℕ → List Act
owes label = act.Puts (record { 0 = 1 }) (record { 0 = label }) sort.Unit ∷ []

-- the start; either choice is owed; then label 2 is sent; and then label 1
abbrev six : List Spot
six = spot 0 [] 0 ∷ spot 0 (owes 0) 1 ∷ spot 0 (owes 1) 2 ∷ spot 1 (owes 0) 3 ∷ spot 1 (owes 1) 3 ∷ spot 2 [] 3 ∷ []

abbrev nexts : Spot → List Spot
nexts p = nexts_within sends_ahead chooses 16 p

one : (a : Spot) → Among six a → (y : Spot) → Among (a ∷ []) y → Among six y
one a p y (inl e) = subst (Among six) e p
one a p y (inr h) = absurd h

two : (a b : Spot) → Among six a → Among six b → (y : Spot) → Among (a ∷ b ∷ []) y → Among six y
two a b p q y (inl e) = subst (Among six) e p
two a b p q y (inr h) = one b q y h

none : (y : Spot) → Among [] y → Among six y
none y h = absurd h

leads : (x y : Spot) → Among six x → Among (nexts x) y → Among six y
leads x y (inl e) m = two (spot 0 (owes 0) 1) (spot 0 (owes 1) 2) (inr (inl refl)) (inr (inr (inl refl))) y (subst (λ (z : Spot). Among (nexts z) y) (sym e) m)
leads x y (inr (inl e)) m = one (spot 1 (owes 0) 3) (inr (inr (inr (inl refl)))) y (subst (λ (z : Spot). Among (nexts z) y) (sym e) m)
leads x y (inr (inr (inl e))) m = one (spot 1 (owes 1) 3) (inr (inr (inr (inr (inl refl))))) y (subst (λ (z : Spot). Among (nexts z) y) (sym e) m)
leads x y (inr (inr (inr (inl e)))) m = none y (subst (λ (z : Spot). Among (nexts z) y) (sym e) m)
leads x y (inr (inr (inr (inr (inl e))))) m = one (spot 2 [] 3) (inr (inr (inr (inr (inr (inl refl)))))) y (subst (λ (z : Spot). Among (nexts z) y) (sym e) m)
leads x y (inr (inr (inr (inr (inr (inl e)))))) m = none y (subst (λ (z : Spot). Among (nexts z) y) (sym e) m)
leads x y (inr (inr (inr (inr (inr (inr h)))))) m = absurd h

reached : (x : Spot) → Reached nexts (start_spot sends_ahead chooses) x → Among six x
reached _ Begin = inl refl
reached _ (Step x y r m) = leads x y (reached x r) m

-- there are six, with five results: the steps are at most 2 * 5 + 6
pub most_steps : (before after : ℕ) → IsWithinCost sends_ahead chooses 16 before after → after ≤ before + 16
most_steps before after w =
    let are : (x : Spot) → Among w.spots x → Among six x = λ x m. reached x (from_candidate sends_ahead chooses 16 x (w.are.to x m)) in
    let few = no_more w.spots six w.are.once are in
    let less = sum_less (λ (p : Spot). length (nexts p)) w.spots six w.are.once are in
    let five : sum_by (λ (p : Spot). length (nexts p)) six ≡ 5 = refl in
    let most : after ≤ before + (2 * sum_by (λ (p : Spot). length (nexts p)) w.spots + length w.spots) = w.most in
    let size : length six ≡ 6 = refl in
    omega (arith, few, less, five, most, size)

pub few_steps : {A E : Type 0} (result : Result A E) (sub above : Machine_data) (before after : ℕ) → sub ≡ sends_ahead → above ≡ chooses → OnOk result (IsWithinCost sub above 16 before after)
    → OnOk result (after ≤ before + 16)
few_steps (Ok x) sub above before after ours theirs w =
    most_steps before after (subst (λ (m : Machine_data). IsWithinCost m chooses 16 before after) ours (subst (λ (m : Machine_data). IsWithinCost sub m 16 before after) theirs w))
few_steps (Err e) sub above before after ours theirs w = tt
