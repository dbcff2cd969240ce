-- Numbers of items, in their order.
use Rattle.std.proofs.Common.{◌≡◌, ℕ, ◌<◌, ◌+◌, List, [], ◌∷◌, length, refl, sym, ap, ◌∙◌, arith, zero, suc, Some, slice_get}
use Rattle.std.proofs.lemmas.Option.{same_Some}
use Rattle.rs_graph.proofs.Growth.{at_short}
use Rattle.rs_search.specs.Nodes.{places_of}

pub places_length : {X : Type 0} (k : ℕ) (xs : List X) → length (places_of k xs) ≡ length xs
places_length k [] = refl
places_length k (x ∷ xs) = ap suc (places_length (suc k) xs)

places_from : {X : Type 0} (k : ℕ) (xs : List X) (i : ℕ) → i < length xs → slice_get (places_of k xs) i ≡ Some (k + i)
places_from k [] i h = let bad : ⊥ = omega arith in absurd bad
places_from k (x ∷ xs) zero h = let e : k ≡ k + 0 = omega arith in ap (λ (z : ℕ). Some z) e
places_from k (x ∷ xs) (suc i) h = let e : suc k + i ≡ k + suc i = omega arith in places_from (suc k) xs i (omega arith) ∙ ap (λ (z : ℕ). Some z) e

-- each number stands at its own place
pub place_at : {X : Type 0} (xs : List X) (i : ℕ) → i < length xs → slice_get (places_of 0 xs) i ≡ Some i
place_at xs i h = let e : 0 + i ≡ i = omega arith in places_from 0 xs i h ∙ ap (λ (z : ℕ). Some z) e

pub place_is : {X : Type 0} (xs : List X) (i n : ℕ) → slice_get (places_of 0 xs) i ≡ Some n → (i ≡ n) × (i < length xs)
place_is xs i n e =
    let s = at_short (places_of 0 xs) i n e in
    let l = places_length 0 xs in
    let h : i < length xs = omega arith in (same_Some i n (sym (place_at xs i h) ∙ e), h)
