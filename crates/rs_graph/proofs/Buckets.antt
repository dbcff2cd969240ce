-- Rows of numbers, and what stands at a place.
use Rattle.std.proofs.Common.{◌≡◌, inl, inr, ℕ, ◌<◌, List, [], ◌∷◌, length, refl, ◌∙◌, arith, suc, zero, Some, slice_get, get_or}
use Rattle.std.proofs.lemmas.List.{get_or_default}
use Rattle.rs_graph.specs.Lists.{Among}

pub place_in : (xs : List ℕ) (k : ℕ) → k < length xs → Among xs (get_or xs k 0)
place_in [] k h = let bad : ⊥ = omega arith in absurd bad
place_in (x ∷ xs) zero h = inl refl
place_in (x ∷ xs) (suc k) h = inr (place_in xs k (omega arith))

pub got : {X : Type 0} (xs : List X) (i : ℕ) (x d : X) → slice_get xs i ≡ Some x → get_or xs i d ≡ x
got [] i x d e = absurd cc
got (y ∷ ys) zero x d e = cc
got (y ∷ ys) (suc i) x d e = got ys i x d e

pub the_row : (buckets : List (List ℕ)) (k : ℕ) (row bucket : List ℕ) → k < length buckets → row ≡ bucket → bucket ≡ get_or buckets k bucket → row ≡ get_or buckets k []
the_row buckets k row bucket h a b = a ∙ b ∙ get_or_default buckets k bucket [] h
