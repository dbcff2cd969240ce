-- The results that the cost counts are those of all moves of a spot, each move once.
use Rattle.std.proofs.Common.{◌≡◌, ℕ, zero, suc, ◌≤◌, Bool, true, false, List, [], ◌∷◌, length, map, refl, sym, ap, ◌∙◌, subst, arith, inl, inr, Some, None, Option, slice_get, eqb, if◌then◌else◌}
use Rattle.std.proofs.lemmas.Bool.{eqb-true}
use Rattle.std.proofs.lemmas.List.{length-map}
use Rattle.std.proofs.lemmas.Option.{none-some}
use Rattle.rs_model.specs.Data.{Machine_data}
use Rattle.rs_model.specs.declared.graph.Arm.{Arm}
use Rattle.rs_model.specs.declared.graph.Role.{Role}
use Rattle.rs_model.specs.declared.machines.State.{State}
use Rattle.rs_model.specs.declared.machines.State.TheVariants as state
use Rattle.rs_derive.proofs.Mapped.{map_of}
use Rattle.rs_derive.proofs.Rows.{by_rule}
use Rattle.rs_derive.proofs.Ruled.{fitting}
use Rattle.rs_derive.specs.Derivations.{IsProper}
use Rattle.rs_derive.specs.Due.{Due, due, nexts_by}
use Rattle.rs_derive.specs.Moves.{Spot, owing_send}
use Rattle.rs_derive.specs.Rules.{RuleFits, arms_at, arms_of}
use Rattle.rs_derive.specs.Within.{HasLabelsOnce}
use Rattle.rs_derive.specs.declared.rules.Rule.{Rule}
use Rattle.rs_derive.specs.declared.rules.Rule.TheVariants.{Stops, Pays, SendsBoth, Guesses, Follows}
use Rattle.rs_graph.specs.Graphs.{moves_of}
use Rattle.rs_graph.specs.Lists.{concat}
use Rattle.rs_graph.specs.Order.{Once}
use Rattle.rs_search.proofs.Choices.{Single, append_nil, bool_cases, both_single, follow_single, from_move, moves_at, to_move}
use Rattle.rs_search.proofs.Chosen.{same_label}
use Rattle.rs_search.specs.Costs.{AreMovesWithin}
use Rattle.rs_search.specs.Turns.{nexts_within, no_turn, owes_more, turn_of, turn_with_cut, turn_within}

-- ---- lists in which nothing stands twice

none_once : {X : Type 0} → Once {X = X} []
none_once i j x e f = absurd (none-some x e)

one_once : {X : Type 0} (x : X) → Once (x ∷ [])
one_once x zero zero y e f = refl
one_once x zero (suc j) y e f = absurd (none-some y f)
one_once x (suc i) j y e f = absurd (none-some y e)

short_once : {X : Type 0} (xs : List X) → length xs ≤ 1 → Once xs
short_once [] le = none_once
short_once (x ∷ []) le = one_once x
short_once (x ∷ y ∷ xs) le = absurd (omega (arith, le))

mapped_once : {X Y : Type 0} (f : X → Y) (xs : List X) → ((i j : ℕ) (a b : X) → slice_get xs i ≡ Some a → slice_get xs j ≡ Some b → f a ≡ f b → i ≡ j) → Once (map f xs)
mapped_once f xs h i j y e g = let a = map_of f xs i y e in let b = map_of f xs j y g in h i j a.0 b.0 a.1 b.1 (a.2 ∙ sym b.2)

-- ---- each move once

abbrev alone : Spot → List Spot
alone x = x ∷ []

single_length : (ds : List (List Spot)) → Single ds → length (concat ds) ≡ length ds
single_length [] h = refl
single_length ([] ∷ ds) h = absurd h
single_length ((r ∷ []) ∷ ds) h = ap suc (single_length ds h)
single_length ((r ∷ s ∷ ss) ∷ ds) h = absurd h

single_once : (ds : List (List Spot)) → Single ds → eqb (length ds) 1 ≡ true → Once (map alone (concat ds))
single_once ds h e = let one = eqb-true (length ds) 1 e in short_once (map alone (concat ds)) (omega (arith, length-map (concat ds) alone, single_length ds h, one))

guessed_once : (p : Spot) (q : Role) (theirs : List Arm) → HasLabelsOnce theirs → Once (map alone (concat (map (λ b. owing_send p q b) theirs ∷ [])))
guessed_once p q theirs once =
    let guesses : List Spot = map (λ b. owing_send p q b) theirs in
    subst (λ (z : List Spot). Once (map alone z)) (sym (append_nil guesses)) (mapped_once alone guesses (λ i j x y ex ey same. (
    let a = map_of (λ b. owing_send p q b) theirs i x ex in
    let b = map_of (λ b. owing_send p q b) theirs j y ey in
    once i j a.0 b.0 a.1 b.1 (same_label p q a.0 b.0 (ap alone a.2 ∙ same ∙ sym (ap alone b.2))))))

ruled_once : (p : Spot) (arms theirs : List Arm) (rule : Rule) → RuleFits p.pending arms theirs rule → HasLabelsOnce theirs → eqb (length (nexts_by p arms theirs rule)) 1 ≡ true
    → Once (map alone (concat (nexts_by p arms theirs rule)))
ruled_once p arms theirs Stops fits once e = none_once
ruled_once p arms theirs (Pays place a) fits once e = one_once _
ruled_once p arms theirs SendsBoth fits once e = single_once (nexts_by p arms theirs SendsBoth) (both_single theirs p.pending arms fits) e
ruled_once p arms theirs (Guesses q) fits once e = guessed_once p q theirs once
ruled_once p arms theirs (Follows q) fits once e = single_once (nexts_by p arms theirs (Follows q)) (follow_single p q theirs) e

moves_once : (any : Bool) (spots : List Spot) → (any ≡ true → Once (map alone spots)) → Once (moves_of any spots)
moves_once true spots h = h refl
moves_once false spots h = one_once spots

-- no label stands twice at a state of a well-formed machine
labels_once : (m : Machine_data) → IsProper m → (t : ℕ) → HasLabelsOnce (arms_of (slice_get m.states t))
labels_once m proper t = go (slice_get m.states t) refl
  where
    go : (o : Option State) → slice_get m.states t ≡ o → HasLabelsOnce (arms_of o)
    go None at = λ i j a b e f same. absurd (none-some a e)
    go (Some state.Done) at = λ i j a b e f same. absurd (none-some a e)
    go (Some (state.Puts q arms)) at = (proper.1.puts t q arms at).once
    go (Some (state.Takes q arms)) at = (proper.1.takes t q arms at).once

each_once : (sub above : Machine_data) (bound : ℕ) (p : Spot) → IsProper above → Once (moves_at sub above bound p)
each_once sub above bound p proper = go (due sub above p) refl
  where
    go : (o : Option Due) → due sub above p ≡ o → Once (moves_of (turn_with_cut bound (turn_of o)).any (turn_with_cut bound (turn_of o)).spots)
    go None e = none_once
    go (Some d) e = elim (bool_cases (owes_more bound (concat d.nexts))) [
      | inl t ↦ subst (λ (b : Bool). Once (moves_of (if b then no_turn true else turn_of (Some d)).any (if b then no_turn true else turn_of (Some d)).spots)) (sym t) none_once
      | inr f ↦ subst (λ (b : Bool). Once (moves_of (if b then no_turn true else turn_of (Some d)).any (if b then no_turn true else turn_of (Some d)).spots)) (sym f)
          (let t = slice_get above.states p.above in
          let b = by_rule p (slice_get sub.states p.state) t d e in
          moves_once (eqb (length d.nexts) 1) (concat d.nexts) (subst (λ (x : Due). eqb (length x.nexts) 1 ≡ true → Once (map alone (concat x.nexts))) (sym b.due_is)
          (ruled_once p (arms_at b.state) (arms_of t) b.rule (fitting p.pending b.state t b.rule b.row) (labels_once above proper p.above))))
    ]

-- ---- all their results

all_alone : (spots : List Spot) → concat (map alone spots) ≡ spots
all_alone [] = refl
all_alone (x ∷ spots) = ap (λ (z : List Spot). x ∷ z) (all_alone spots)

all_results : (any : Bool) (spots : List Spot) → concat (moves_of any spots) ≡ spots
all_results true spots = all_alone spots
all_results false spots = append_nil spots

pub counted : (sub above : Machine_data) (bound : ℕ) (p : Spot) → IsProper above
    → (moves : List (List Spot)) × AreMovesWithin sub above bound p moves × (nexts_within sub above bound p ≡ concat moves)
counted sub above bound p proper = (
  moves_at sub above bound p,
  record { once = each_once sub above bound p proper; to = to_move sub above bound p; from = from_move sub above bound p },
  sym (all_results (turn_within sub above bound p).any (turn_within sub above bound p).spots),
)
