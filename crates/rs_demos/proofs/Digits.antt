-- Numerals of at most twenty digits.
use Rattle.std.proofs.Common.{◌≡◌, ℕ, zero, suc, ◌+◌, ◌-◌, ◌*◌, ◌^◌, ◌<◌, ◌≤◌, List, [], ◌∷◌, ◌++◌, length, take, get_or, sym, ap, subst, ◌∙◌, arith}
use Rattle.std.specs.Char.{digit_value}
use Rattle.std.specs.Int.{IsInRange}
use Rattle.std.specs.Str.Parse.{AllDigits, digits_value}
use Rattle.std.proofs.Math.Nat.{pow-le-pow_right}
use Rattle.std.proofs.lemmas.Int.Digits.{digits_value-lt, digits_value_push}
use Rattle.std.proofs.lemmas.List.{take_more, length-take}
use Rattle.std.proofs.lemmas.Str.{digit_value_digit}
use Rattle.std.proofs.lemmas.Str.Parse.{digit_from_value}

digits_push : (xs : List ℕ) (c : ℕ) → AllDigits 10 xs → digit_value c < 10 → AllDigits 10 (xs ++ c ∷ [])
digits_push [] c h d = (d, tt)
digits_push (x ∷ xs) c h d = (h.0, digits_push xs c h.1 d)

pub digit_at : (ds : List ℕ) (i : ℕ) → AllDigits 10 ds → i < length ds → IsInRange 48 57 (get_or ds i 0)
digit_at [] i h lt = absurd (omega arith)
digit_at (d ∷ ds) zero h lt = digit_from_value d h.0
digit_at (d ∷ ds) (suc i) h lt = digit_at ds i h.1 (omega arith)

-- a numeral of twenty digits is below 10 ^ 20
pub below : (ds : List ℕ) → AllDigits 10 ds → length ds ≤ 20 → digits_value 10 ds < 10 ^ 20
below ds h few =
    let a = digits_value-lt 10 ds h in
    let b : 10 ^ length ds ≤ 10 ^ 20 = pow-le-pow_right (omega arith) few in
    omega arith

-- one digit more
pub record Longer (ds : List ℕ) (i n : ℕ) : Type 0 where
  pub low : 48 ≤ get_or ds i 0
  pub digits : AllDigits 10 (take (i + 1) ds)
  pub value : n * 10 + (get_or ds i 0 - 48) ≡ digits_value 10 (take (i + 1) ds)
  pub small : n * 10 + (get_or ds i 0 - 48) < 10 ^ 20

pub longer : (ds : List ℕ) (i n : ℕ) → i < length ds → length ds ≤ 20 → AllDigits 10 (take i ds) → n ≡ digits_value 10 (take i ds)
    → IsInRange 48 57 (get_or ds i 0) → Longer ds i n
longer ds i n there few all value range =
    let c : ℕ = get_or ds i 0 in
    let d = digit_value_digit (get_or ds i 0) range in
    let more = take_more ds i 0 there in
    let digits : AllDigits 10 (take (i + 1) ds) =
    subst (AllDigits 10) (sym more) (digits_push (take i ds) (get_or ds i 0) all (omega (arith, range))) in
    let pushed : digits_value 10 (take (i + 1) ds) ≡ digits_value 10 (take i ds) * 10 + digit_value (get_or ds i 0) =
    ap (λ (z : List ℕ). digits_value 10 z) more ∙ digits_value_push 10 (take i ds) (get_or ds i 0) in
    let same : n * 10 + (get_or ds i 0 - 48) ≡ digits_value 10 (take (i + 1) ds) = omega (arith, pushed, value, d) in
    record {
      low = omega (arith, d);
      digits = digits;
      value = same;
      small = omega (arith, same, below (take (i + 1) ds) digits (omega (arith, length-take (i + 1) ds)));
    }
