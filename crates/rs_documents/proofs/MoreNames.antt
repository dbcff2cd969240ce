-- Names among others: how many there are, and their numbers.
use Rattle.std.proofs.Common.{◌≡◌, ℕ, suc, ◌+◌, ◌≤◌, List, [], ◌∷◌, ◌++◌, length, Bool, true, false, ◌||◌, nat_lt, if◌then◌else◌, inl, inr, Option, Some, refl, sym, ap, ◌∙◌, subst, arith}
use Rattle.std.proofs.Common.{length-append, slice_get}
use Rattle.std.proofs.lemmas.Bool.{lt-ltb}
use Rattle.std.proofs.lemmas.List.Folds.{list_any-append}
use Rattle.std.proofs.lemmas.Slice.Eq.{bytes_eq-Decides}
use Rattle.std.specs.Str.{bytes_eq}
use Rattle.rs_documents.specs.Again.{number_among}
use Rattle.rs_documents.proofs.FewLabels.{longer}
use Rattle.rs_text.proofs.Basics.{or_first, or_end}
use Rattle.rs_text.proofs.Gaps.{true_or_false}
use Rattle.rs_text.proofs.Naming.{bytes_same, differ_rest, grown_among, grown_stays, place_stands, placed_by}
use Rattle.rs_text.specs.Names.{names_with, is_among, number_or, place_of, differ}
use Rattle.rs_text.specs.NamePlaces.{name_at, text_or_none}

-- each of these names is one of those
abbrev pub AreAmong : (xs ys : List (List ℕ)) → Type 0
AreAmong xs ys = (x : List ℕ) → is_among x xs ≡ true → is_among x ys ≡ true

pub first_among : (x : List ℕ) (xs : List (List ℕ)) → is_among x (x ∷ xs) ≡ true
first_among x xs = or_first (bytes_eq x x) (is_among x xs) (bytes_same x)

pub later_among : (x y : List ℕ) (xs : List (List ℕ)) → is_among x xs ≡ true → is_among x (y ∷ xs) ≡ true
later_among x y xs h = or_end (bytes_eq y x) (is_among x xs) h

pub front_among : (x : List ℕ) (xs ys : List (List ℕ)) → is_among x xs ≡ true → is_among x (xs ++ ys) ≡ true
front_among x xs ys h = list_any-append (λ z. bytes_eq z x) xs ys ∙ or_first (is_among x xs) (is_among x ys) h

pub back_among : (x : List ℕ) (xs ys : List (List ℕ)) → is_among x ys ≡ true → is_among x (xs ++ ys) ≡ true
back_among x xs ys h = list_any-append (λ z. bytes_eq z x) xs ys ∙ or_end (is_among x xs) (is_among x ys) h

or_either : (a b : Bool) (P : Type 0) → (a || b) ≡ true → (a ≡ true → P) → (b ≡ true → P) → P
or_either true b P h f g = f refl
or_either false b P h f g = g h

pub either_among : (x : List ℕ) (xs ys : List (List ℕ)) (P : Type 0) → is_among x (xs ++ ys) ≡ true → (is_among x xs ≡ true → P) → (is_among x ys ≡ true → P) → P
either_among x xs ys P h f g = or_either (is_among x xs) (is_among x ys) P (sym (list_any-append (λ z. bytes_eq z x) xs ys) ∙ h) f g

-- what is in grown names was there or is new
pub grown_either : (x : List ℕ) (xs names : List (List ℕ)) (P : Type 0) → is_among x (names_with names xs) ≡ true → (is_among x names ≡ true → P) → (is_among x xs ≡ true → P) → P
grown_either x xs names P h f g = or_either (is_among x names) (is_among x xs) P (sym (grown_among xs names x) ∙ h) f g

pub grown_old : (x : List ℕ) (xs names : List (List ℕ)) → is_among x names ≡ true → is_among x (names_with names xs) ≡ true
grown_old x xs names h = grown_among xs names x ∙ or_first (is_among x names) (is_among x xs) h

pub grown_new : (x : List ℕ) (xs names : List (List ℕ)) → is_among x xs ≡ true → is_among x (names_with names xs) ≡ true
grown_new x xs names h = grown_among xs names x ∙ or_end (is_among x names) (is_among x xs) h

-- labels that bring no new names are known
pub all_known : (labels names : List (List ℕ)) → names_with names labels ≡ names → AreAmong labels names
all_known labels names e l a = subst (λ (z : List (List ℕ)). is_among l z ≡ true) e (grown_new l labels names a)

-- and those that are known bring no new ones
pub grown_same : (xs names : List (List ℕ)) → AreAmong xs names → names_with names xs ≡ names
grown_same [] names h = refl
grown_same (x ∷ xs) names h = rw (h x (first_among x xs)) (grown_same xs names (λ l a. h l (later_among l x xs a)))

-- ---- how many there are

abbrev without : List ℕ → List (List ℕ) → List (List ℕ)
without x [] = []
without x (y ∷ ys) = if bytes_eq y x then ys else y ∷ without x ys

one_less : (x : List ℕ) (ys : List (List ℕ)) → is_among x ys ≡ true → length ys ≡ suc (length (without x ys))
one_less x [] h = absurd (cc h)
one_less x (y ∷ ys) h = elim (true_or_false (bytes_eq y x)) [
  | inl e ↦ rw e refl
  | inr e ↦ rw e (ap suc (one_less x ys (rw e at h)))
]

still_among : (x z : List ℕ) (ys : List (List ℕ)) → bytes_eq x z ≡ false → is_among z ys ≡ true → is_among z (without x ys) ≡ true
still_among x z [] h k = absurd (cc k)
still_among x z (y ∷ ys) h k = elim (true_or_false (bytes_eq y x)) [
  | inl e ↦ (
      let other : bytes_eq y z ≡ false = subst (λ (w : List ℕ). bytes_eq w z ≡ false) (sym ((bytes_eq-Decides y x).0 e)) h in
      rw e (rw other at k))
  | inr e ↦ rw e (or_either (bytes_eq y z) (is_among z ys) (is_among z (y ∷ without x ys) ≡ true) k (λ f. or_first (bytes_eq y z) (is_among z (without x ys)) f)
      (λ f. or_end (bytes_eq y z) (is_among z (without x ys)) (still_among x z ys h f)))
]

apart : (x z : List ℕ) (xs : List (List ℕ)) → is_among x xs ≡ false → is_among z xs ≡ true → bytes_eq x z ≡ false
apart x z xs h k = elim (true_or_false (bytes_eq x z)) [
  | inl e ↦ (let same : is_among x xs ≡ true = subst (λ (w : List ℕ). is_among w xs ≡ true) (sym ((bytes_eq-Decides x z).0 e)) k in absurd (cc (same, h)))
  | inr e ↦ e
]

-- names that differ, each one of some, are no more than these
pub no_more : (xs ys : List (List ℕ)) → differ xs ≡ true → AreAmong xs ys → length xs ≤ length ys
no_more [] ys d h = omega arith
no_more (x ∷ xs) ys d h =
    let p = differ_rest (is_among x xs) (differ xs) d in
    let rest = no_more xs (without x ys) p.1 (λ z k. still_among x z ys (apart x z xs p.0 k) (h z (later_among z x xs k))) in
    let size = one_less x ys (h x (first_among x xs)) in
    omega (arith, rest, size)

-- where they stay few there is room for the next one
pub room : (l : List ℕ) (more ls : List (List ℕ)) → length (names_with ls (l ∷ more)) ≤ 256 → (is_among l ls || nat_lt (length ls) 256) ≡ true
room l more ls h = elim (true_or_false (is_among l ls)) [
  | inl e ↦ rw e refl
  | inr e ↦ (let g = rw e at h in let m = longer more (ls ++ l ∷ []) in let k : length (ls ++ l ∷ []) ≡ length ls + 1 = length-append ls (l ∷ []) in rw e
      (lt-ltb (length ls) 256 (omega (arith, g, m, k))))
]

-- ---- their numbers

pub number_there : (names : List (List ℕ)) (l : List ℕ) → is_among l names ≡ true → slice_get names (number_or (place_of l names)) ≡ Some l
number_there names l h =
    let p = placed_by (place_of l names) l names refl h in
    ap (λ (o : Option ℕ). slice_get names (number_or o)) p.1 ∙ (place_stands names l p.0 p.1).present

pub name_there : (names : List (List ℕ)) (l : List ℕ) → is_among l names ≡ true → name_at names (number_or (place_of l names)) ≡ l
name_there names l h = ap text_or_none (number_there names l h)

-- the number of a name that is known, and of one that stands at a place
pub number_known : (names others : List (List ℕ)) (l : List ℕ) → is_among l names ≡ true → number_among names others (number_or (place_of l names)) ≡ number_or (place_of l others)
number_known names others l h = ap (λ (z : List ℕ). number_or (place_of z others)) (name_there names l h)

pub number_at : (names others : List (List ℕ)) (l : List ℕ) (i : ℕ) → slice_get names i ≡ Some l → number_among names others i ≡ number_or (place_of l others)
number_at names others l i e = ap (λ (o : Option (List ℕ)). number_or (place_of (text_or_none o) others)) e

-- further names change no number
pub number_kept : (names more : List (List ℕ)) (l : List ℕ) → is_among l names ≡ true → number_or (place_of l (names_with names more)) ≡ number_or (place_of l names)
number_kept names more l h =
    let p = placed_by (place_of l names) l names refl h in
    ap number_or (grown_stays more names l p.0 p.1) ∙ sym (ap number_or p.1)
