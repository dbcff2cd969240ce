use Rattle.std.proofs.Common.{Bool, true, false, sym, ◌/◌, ◌%◌, ◌^◌, ◌++◌, refl, ◌≡◌, ℕ, suc, ◌+◌, ◌-◌, ◌*◌, ◌<◌, ◌≤◌, List, [], ◌∷◌, take, nat_lt, if◌then◌else◌, arith}
use Rattle.std.proofs.lemmas.Fmt.{decimal_by_steps}
use Rattle.std.proofs.lemmas.Bool.Decides.{nat_tests}
use Rattle.std.proofs.lemmas.List.Folds.{list_all-append}
use Rattle.std.specs.Fmt.{decimal}
use Rattle.std.specs.List.{list_all}
use Rattle.rs_text.specs.Bytes.{is_digit, begins}
use Rattle.rs_model.specs.declared.limits.TheConstants.{MOST_NUMBER}
use Rattle.rs_text.specs.Lexing.{SizedSign, front, number_front, number_length}
use Rattle.rs_text.specs.declared.tokens.FaultKind.TheVariants as fault
use Rattle.rs_text.specs.Signs.{number, broken}
use Rattle.rs_text.specs.Tokens.{IsToken}
use Rattle.rs_text.specs.Lexemes.{value_behind, value_of}

-- further digits only make a number greater
pub behind_more : (bytes : List ℕ) (value : ℕ) → value ≤ value_behind value bytes
behind_more [] value = omega arith
behind_more (b ∷ bs) value = let h = behind_more bs (value * 10 + (b - 48)) in omega arith

-- a number that goes on with the digits in front of the bytes, from this value and size on
abbrev pub number_on : ℕ → ℕ → List ℕ → SizedSign
number_on value size [] = front (number value) size
number_on value size (b ∷ bs) =
    if is_digit b then (if nat_lt MOST_NUMBER (value * 10 + (b - 48)) then front (broken fault.NumberTooLarge) 0 else number_on (value * 10 + (b - 48)) (size + 1) bs)
    else front (number value) size

-- a number of this value and size, unless it is too large
abbrev judged : ℕ → ℕ → SizedSign
judged value size = if nat_lt MOST_NUMBER value then front (broken fault.NumberTooLarge) 0 else front (number value) size

judged_small : (value size end : ℕ) → value ≤ MOST_NUMBER → size ≡ end → front (number value) size ≡ judged value end
judged_small value size end h e = rw e (grind (arith, nat_tests))

judged_large : (value size : ℕ) → MOST_NUMBER < value → front (broken fault.NumberTooLarge) 0 ≡ judged value size
judged_large value size h = grind (arith, nat_tests)

one_more : (b : ℕ) (bs : List ℕ) (value size : ℕ) (d t : Bool) → is_digit b ≡ d → nat_lt MOST_NUMBER (value * 10 + (b - 48)) ≡ t → value ≤ MOST_NUMBER
    → (value * 10 + (b - 48) ≤ MOST_NUMBER
    → number_on (value * 10 + (b - 48)) (size + 1) bs ≡ judged (value_behind (value * 10 + (b - 48)) (take (number_length bs) bs)) (size + 1 + number_length bs))
    → number_on value size (b ∷ bs) ≡ judged (value_behind value (take (number_length (b ∷ bs)) (b ∷ bs))) (size + number_length (b ∷ bs))
one_more b bs value size false t e f h more = rw e (judged_small value size (size + 0) h (omega arith))
one_more b bs value size true true e f h more =
    let m = behind_more (take (number_length bs) bs) (value * 10 + (b - 48)) in
    let g : MOST_NUMBER < value * 10 + (b - 48) = grind (arith, nat_tests) in
    let n : 1 + number_length bs ≡ suc (number_length bs) = omega arith in
    rw (e, f, n) (judged_large (value_behind (value * 10 + (b - 48)) (take (number_length bs) bs)) (size + suc (number_length bs)) (omega arith))
one_more b bs value size true false e f h more =
    let g : value * 10 + (b - 48) ≤ MOST_NUMBER = grind (arith, nat_tests) in
    let n : 1 + number_length bs ≡ suc (number_length bs) = omega arith in
    let m : size + suc (number_length bs) ≡ size + 1 + number_length bs = omega arith in
    rw (e, f, n, m) (more g)

pub number_goes_on : (bytes : List ℕ) (value size : ℕ) → value ≤ MOST_NUMBER → number_on value size bytes ≡ judged (value_behind value (take (number_length bytes) bytes)) (size + number_length bytes)
number_goes_on [] value size h = judged_small value size (size + 0) h (omega arith)
number_goes_on (b ∷ bs) value size h =
    one_more b bs value size (is_digit b) (nat_lt MOST_NUMBER (value * 10 + (b - 48))) refl refl h (λ g. number_goes_on bs (value * 10 + (b - 48)) (size + 1) g)

-- begun with nothing it is the number in front of the bytes
pub number_is_in_front : (bytes : List ℕ) → number_on 0 0 bytes ≡ number_front bytes (number_length bytes)
number_is_in_front bytes =
    let h = number_goes_on bytes 0 0 (omega arith) in
    let n : 0 + number_length bytes ≡ number_length bytes = omega arith in
    rw n at h

-- one more digit at the end
behind_push : (digits : List ℕ) (value b : ℕ) → value_behind value (digits ++ b ∷ []) ≡ value_behind value digits * 10 + (b - 48)
behind_push [] value b = refl
behind_push (d ∷ digits) value b = behind_push digits (value * 10 + (d - 48)) b

pub value_push : (digits : List ℕ) (b : ℕ) → value_of (digits ++ b ∷ []) ≡ value_of digits * 10 + (b - 48)
value_push digits b = behind_push digits 0 b

-- the decimal digits of a number have its value
abbrev Reads : ℕ → List ℕ → Type 0
Reads n digits = (value_of digits ≡ n) × (list_all is_digit digits ≡ true) × (begins is_digit digits ≡ true)

plus_is_digit : (n : ℕ) → n < 10 → is_digit (48 + n) ≡ true
plus_is_digit n h = grind (arith, nat_tests)

begins_more : (p : ℕ → Bool) (xs ys : List ℕ) → begins p xs ≡ true → begins p (xs ++ ys) ≡ true
begins_more p [] ys h = absurd (cc h)
begins_more p (x ∷ xs) ys h = h

reads_digit : (n : ℕ) → n < 10 → Reads n ((48 + n) ∷ [])
reads_digit n h = let d = plus_is_digit n h in (omega arith, rw d refl, d)

reads_push : (n : ℕ) (digits : List ℕ) → 10 ≤ n → Reads (n / 10) digits → Reads n (digits ++ (48 + n % 10) ∷ [])
reads_push n digits h r =
    let d = plus_is_digit (n % 10) (omega arith) in (
      (rw (value_push digits (48 + n % 10), r.0) (omega arith)),
      (rw (list_all-append is_digit digits ((48 + n % 10) ∷ []), r.1, d) refl),
      (begins_more is_digit digits ((48 + n % 10) ∷ []) r.2),
    )

pub decimal_reads : (n : ℕ) → n < 2 ^ 64 → Reads n (decimal n)
decimal_reads n h = decimal_by_steps Reads reads_digit reads_push n h

pub decimal_token : (n : ℕ) (behind : List ℕ) → n ≤ 4294967295 → begins is_digit behind ≡ false → IsToken (number n) (decimal n) behind
decimal_token n behind small whole =
    let r = decimal_reads n (omega arith) in
    let e = r.0 in
    (record { first = r.2; all = r.1; whole = whole }, omega arith, sym e)
