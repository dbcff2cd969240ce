-- Results one after the other.
use Rattle.std.proofs.Common.{◌≡◌, ℕ, ℤ, List, [], ◌∷◌, ◌++◌, map, Result, Ok, Err, IfOk, OnOk, refl, ap, append-nil}
use Rattle.std.specs.List.{join_with_byte}
use Rattle.std.specs.Fmt.{signed_decimal}
use Rattle.rs_demos.specs.Printing.{joined_text, further_numbers_text}

joined : (z : ℤ) (zs : List ℤ) → signed_decimal z ++ further_numbers_text zs ≡ join_with_byte 32 (map signed_decimal (z ∷ zs))
joined z [] = append-nil (signed_decimal z)
joined z (y ∷ ys) = ap (λ (x : List ℕ). signed_decimal z ++ (32 ∷ x)) (joined y ys)

pub results_are : (zs : List ℤ) → joined_text zs ≡ join_with_byte 32 (map signed_decimal zs)
results_are [] = refl
results_are (z ∷ zs) = joined z zs

-- what holds where a result is Ok
pub on_ok : {T E : Type 0} {A B : Type 0} (r : Result T E) → (A → B) → OnOk r A → OnOk r B
on_ok (Ok x) f h = f h
on_ok (Err e) f h = h

pub if_ok : {T E : Type 0} {P Q : T → Type 0} (r : Result T E) → ((x : T) → P x → Q x) → IfOk r P → IfOk r Q
if_ok (Ok x) f h = f x h
if_ok (Err e) f h = h
