-- Names by number: a letter and the decimal digits.
use Rattle.std.proofs.Common.{◌≡◌, ℕ, codes, zero, suc, ◌+◌, ◌<◌, ◌≤◌, ◌^◌, List, [], ◌∷◌, ◌++◌, length, Bool, true, false, ◌||◌, nat_le, if◌then◌else◌, Some, inl, inr, refl, sym, ap, ◌∙◌, arith}
use Rattle.std.proofs.Common.{slice_get, length-append}
use Rattle.std.proofs.lemmas.Bool.Decides.{leb_tells}
use Rattle.std.proofs.lemmas.Fmt.{length-decimal-le}
use Rattle.std.proofs.lemmas.List.Folds.{list_all-append}
use Rattle.std.proofs.lemmas.Option.{slice_get_within}
use Rattle.std.specs.Fmt.{decimal}
use Rattle.std.specs.List.{list_all}
use Rattle.rs_text.proofs.Gaps.{true_or_false}
use Rattle.rs_text.proofs.Naming.{place_law, grown_differ, among_at}
use Rattle.rs_text.proofs.Values.{decimal_reads}
use Rattle.rs_text.specs.Bytes.{is_letter, is_digit, is_word_byte}
use Rattle.rs_text.specs.Lexemes.{value_of}
use Rattle.rs_text.specs.Names.{names_with, is_among, place_of, differ}
use Rattle.rs_text.specs.Words.{is_word, is_role_word}
use Rattle.rs_text.proofs.Basics.{some_is, first_true, second_true, two_true}

-- the n-th name with a letter
abbrev pub plain_name : ℕ → ℕ → List ℕ
plain_name letter n = letter ∷ decimal n

-- the first n names
abbrev pub plain_names : ℕ → ℕ → List (List ℕ)
plain_names letter zero = []
plain_names letter (suc n) = plain_names letter n ++ plain_name letter n ∷ []

tails : (a b : ℕ) (xs ys : List ℕ) → a ∷ xs ≡ b ∷ ys → xs ≡ ys
tails a b xs ys h = cc

pub plain_is : (letter n k : ℕ) → n < 2 ^ 64 → k < 2 ^ 64 → plain_name letter n ≡ plain_name letter k → n ≡ k
plain_is letter n k a b h = sym (decimal_reads n a).0 ∙ ap value_of (tails letter letter (decimal n) (decimal k) h) ∙ (decimal_reads k b).0

pub plain_count : (letter n : ℕ) → length (plain_names letter n) ≡ n
plain_count letter zero = refl
plain_count letter (suc n) = length-append (plain_names letter n) (plain_name letter n ∷ []) ∙ ap (λ z. z + 1) (plain_count letter n) ∙ omega arith

front_stands : (xs ys : List (List ℕ)) (i : ℕ) (x : List ℕ) → slice_get xs i ≡ Some x → slice_get (xs ++ ys) i ≡ Some x
front_stands [] ys i x h = absurd (cc h)
front_stands (z ∷ xs) ys zero x h = h
front_stands (z ∷ xs) ys (suc i) x h = front_stands xs ys i x h

behind_stands : (xs : List (List ℕ)) (x : List ℕ) → slice_get (xs ++ x ∷ []) (length xs) ≡ Some x
behind_stands [] x = refl
behind_stands (z ∷ xs) x = behind_stands xs x

by_last : (letter n i : ℕ) → i < suc n → (i < n → slice_get (plain_names letter n) i ≡ Some (plain_name letter i)) → slice_get (plain_names letter (suc n)) i ≡ Some (plain_name letter i)
by_last letter n i lt f = elim (leb_tells n i) [
  | inl e ↦ (
      let le : n ≤ i = e.1 in
      let same : i ≡ n = omega arith in
      ap (λ z. slice_get (plain_names letter (suc n)) z) (same ∙ sym (plain_count letter n)) ∙ behind_stands (plain_names letter n) (plain_name letter n)
      ∙ ap (λ z. Some (plain_name letter z)) (sym same))
  | inr e ↦ front_stands (plain_names letter n) (plain_name letter n ∷ []) i (plain_name letter i) (f e.1)
]

pub plain_stands : (letter n i : ℕ) → i < n → slice_get (plain_names letter n) i ≡ Some (plain_name letter i)
plain_stands letter zero i lt = absurd (omega arith)
plain_stands letter (suc n) i lt = by_last letter n i lt (plain_stands letter n i)

pub plain_place : (letter n i : ℕ) → i < n → n < 2 ^ 64 → place_of (plain_name letter i) (plain_names letter n) ≡ Some i
plain_place letter n i lt small = (place_law (plain_name letter i) (plain_names letter n) i).1 (record {
  present = plain_stands letter n i lt;
  first = λ k below same. let e : plain_name letter k ≡ plain_name letter i = some_is (plain_name letter k) (plain_name letter i) (sym (plain_stands letter n k (omega arith)) ∙ same) in
      let number : k ≡ i = plain_is letter k i (omega arith) (omega arith) e in omega arith;
})

pub plain_new : (letter n : ℕ) → n < 2 ^ 64 → is_among (plain_name letter n) (plain_names letter n) ≡ false
plain_new letter n small = elim (true_or_false (is_among (plain_name letter n) (plain_names letter n))) [
  | inl e ↦ (
      let j = among_at (plain_names letter n) (plain_name letter n) e in
      let lt : j.0 < length (plain_names letter n) = slice_get_within (plain_names letter n) j.0 (plain_name letter n) j.1 in
      let count : length (plain_names letter n) ≡ n = plain_count letter n in
      let same : plain_name letter j.0 ≡ plain_name letter n = some_is (plain_name letter j.0) (plain_name letter n) (sym (plain_stands letter n j.0 (omega arith)) ∙ j.1) in
      let number : j.0 ≡ n = plain_is letter j.0 n (omega arith) small same in absurd (omega arith))
  | inr e ↦ e
]

pub plain_grown : (letter n : ℕ) → n < 2 ^ 64 → names_with (plain_names letter n) (plain_name letter n ∷ []) ≡ plain_names letter (suc n)
plain_grown letter n small = ap (λ z. if z then plain_names letter n else plain_names letter n ++ plain_name letter n ∷ []) (plain_new letter n small)

pub plain_differ : (letter n : ℕ) → n < 2 ^ 64 → differ (plain_names letter n) ≡ true
plain_differ letter zero small = refl
plain_differ letter (suc n) small = ap differ (sym (plain_grown letter n (omega arith))) ∙ grown_differ (plain_name letter n ∷ []) (plain_names letter n) (plain_differ letter n (omega arith))

-- ---- words

digit_in_word : (letter digit : Bool) → digit ≡ true → (letter || digit) ≡ true
digit_in_word true digit h = refl
digit_in_word false digit h = h

digits_in_words : (bytes : List ℕ) → list_all is_digit bytes ≡ true → list_all is_word_byte bytes ≡ true
digits_in_words [] h = refl
digits_in_words (b ∷ bs) h =
    two_true (is_word_byte b) (list_all is_word_byte bs) (digit_in_word (is_letter b) (is_digit b) (first_true (is_digit b) (list_all is_digit bs) h))
    (digits_in_words bs (second_true (is_digit b) (list_all is_digit bs) h))

within_64 : (n : ℕ) → n ≤ 64 → nat_le n 64 ≡ true
within_64 n h = elim (leb_tells n 64) [ inl e ↦ e.0 | inr e ↦ absurd (omega arith) ]

role_is_word : (digits : List ℕ) → list_all is_word_byte digits ≡ true → nat_le (suc (length digits)) 64 ≡ true → is_role_word (82 ∷ digits) ≡ true
role_is_word digits h k = rw (h, k) refl

number_is_word : (digits : List ℕ) → list_all is_word_byte digits ≡ true → nat_le (suc (length digits)) 64 ≡ true → is_role_word (88 ∷ digits) ≡ true
number_is_word digits h k = rw (h, k) refl

label_is_word : (digits : List ℕ) → list_all is_word_byte digits ≡ true → nat_le (suc (length digits)) 64 ≡ true → is_word (108 ∷ digits) ≡ true
label_is_word digits h k = rw (h, k) refl

short : (n : ℕ) → n < 4294967296 → nat_le (suc (length (decimal n))) 64 ≡ true
short n small = let size : length (decimal n) ≤ 10 = length-decimal-le 10 n (omega arith) (omega arith) (omega arith) in within_64 (suc (length (decimal n))) (omega arith)

pub plain_role : (n : ℕ) → n < 4294967296 → is_role_word (plain_name 82 n) ≡ true
plain_role n small = role_is_word (decimal n) (digits_in_words (decimal n) (decimal_reads n (omega arith)).1) (short n small)

pub numbered_word : (n : ℕ) → n < 4294967296 → is_role_word (codes "X" ++ decimal n) ≡ true
numbered_word n small = number_is_word (decimal n) (digits_in_words (decimal n) (decimal_reads n (omega arith)).1) (short n small)

pub plain_label : (n : ℕ) → n < 4294967296 → is_word (plain_name 108 n) ≡ true
plain_label n small = label_is_word (decimal n) (digits_in_words (decimal n) (decimal_reads n (omega arith)).1) (short n small)

pub plain_all : (test : List ℕ → Bool) (letter n : ℕ) → ((i : ℕ) → i < n → test (plain_name letter i) ≡ true) → list_all test (plain_names letter n) ≡ true
plain_all test letter zero h = refl
plain_all test letter (suc n) h =
    list_all-append test (plain_names letter n) (plain_name letter n ∷ [])
    ∙ two_true (list_all test (plain_names letter n)) (list_all test (plain_name letter n ∷ [])) (plain_all test letter n (λ i lt. h i (omega arith)))
    (two_true (test (plain_name letter n)) true (h n (omega arith)) refl)
