-- A test that tells whether two texts are equal is the definition's test.
use Rattle.std.proofs.Common.{◌≡◌, ℕ, List, Bool, true, false, refl, sym}
use Rattle.std.proofs.lemmas.Slice.Eq.{bytes_eq-Decides}
use Rattle.std.specs.Str.{bytes_eq}

bools : (a b : Bool) → (a ≡ true → b ≡ true) → (b ≡ true → a ≡ true) → a ≡ b
bools true b f g = sym (f refl)
bools false true f g = g refl
bools false false f g = refl

pub tested : (r : Bool) (xs ys : List ℕ) → (r ≡ true → xs ≡ ys) → (xs ≡ ys → r ≡ true) → r ≡ bytes_eq xs ys
tested r xs ys f g = bools r (bytes_eq xs ys) (λ e. (bytes_eq-Decides xs ys).1 (f e)) (λ e. g ((bytes_eq-Decides xs ys).0 e))
