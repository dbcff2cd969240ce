-- Bytes that go piece by piece.
use Rattle.std.proofs.Common.{◌≡◌, ℕ, ◌+◌, ◌≤◌, List, ◌++◌, length, take, drop, arith, sym, ap, ◌∙◌, take-append-drop, subst, Option}
use Rattle.std.proofs.lemmas.List.{take-take, drop-take, length-append, length-take-le, take_at, drop-drop}
use Rattle.std.specs.Io.KnownBytes.{Appends}
use Rattle.std.proofs.KnownBytes.{Appends-trans}

-- the next n after the first i
pub take_next : (i n : ℕ) (xs : List ℕ) → take (i + n) xs ≡ take i xs ++ take n (drop i xs)
take_next i n xs =
    let within : i ≤ i + n = omega arith in
    sym (take-append-drop i (take (i + n) xs)) ∙ ap (λ l. l ++ drop i (take (i + n) xs)) (take-take i (i + n) xs within)
    ∙ ap (λ l. take i xs ++ l) (drop-take i n xs)

-- a write of the rest took n bytes more
pub Appends_next : (a b c : Option (List ℕ)) (i n : ℕ) (xs rest : List ℕ) → rest ≡ drop i xs
    → Appends a b (take i xs) → Appends b c (take n rest) → Appends a c (take (i + n) xs)
Appends_next a b c i n xs rest e p q =
    subst (Appends a c) (ap (λ l. take i xs ++ take n l) e ∙ sym (take_next i n xs)) (Appends-trans a b c (take i xs) (take n rest) p q)

-- the length of a list with a piece behind it
pub length_more : (xs ys : List ℕ) (n : ℕ) → n ≤ length ys → length (xs ++ take n ys) ≡ length xs + n
length_more xs ys n h = length-append xs (take n ys) ∙ ap (λ k. length xs + k) (length-take-le n ys h)

-- bytes from the front of what is left go to the front of a piece
pub moved_front : (now left piece rest bytes : List ℕ) (at n : ℕ) → now ≡ drop at bytes → left ≡ drop at bytes → n ≤ length left
    → piece ≡ take n left → now ≡ take n (piece ++ rest) ++ drop (at + n) bytes
moved_front now left piece rest bytes at n e f h p =
    let front : length piece ≡ n = ap length p ∙ length-take-le n left h in
    let same : take n (piece ++ rest) ≡ take n (drop at bytes) = take_at piece rest n front ∙ p ∙ ap (take n) f in
    e ∙ sym (take-append-drop n (drop at bytes)) ∙ ap (λ l. l ++ drop n (drop at bytes)) (sym same)
    ∙ ap (λ l. take n (piece ++ rest) ++ l) (drop-drop n at bytes)
