-- Small laws of tests, options and lists.
use Rattle.std.proofs.Common.{Some, Bool, refl, true, false, inr, inl, arith, suc, nat_lt, slice_get, List, zero, ap, drop, length, subst, ◌≡◌, ◌≢◌, ℕ, ◌+◌, ◌<◌, [], ◌∷◌, ◌++◌, ◌&&◌, ◌||◌, ◌==◌, ◌∙◌}
use Rattle.std.proofs.Common.{map, sym}
use Rattle.std.proofs.lemmas.Bool.Decides.{eqb_tells, leb_tells}
use Rattle.std.specs.List.{list_any, list_all}
use Rattle.rs_text.proofs.Gaps.{true_or_false}

pub some_is : {A : Type 0} (x y : A) → Some x ≡ Some y → x ≡ y
some_is x y h = cc

pub first_true : (p q : Bool) → (p && q) ≡ true → p ≡ true
first_true true q h = refl
first_true false q h = absurd (cc h)

pub second_true : (p q : Bool) → (p && q) ≡ true → q ≡ true
second_true true q h = h
second_true false q h = absurd (cc h)

pub two_true : (p q : Bool) → p ≡ true → q ≡ true → (p && q) ≡ true
two_true true q h k = k
two_true false q h k = absurd (cc h)

pub both : (a b : Bool) → (a && b) ≡ true → (a ≡ true) × (b ≡ true)
both true b h = (refl, h)
both false b h = absurd (cc h)

pub or_true : (a : Bool) → true ≡ (a || true)
or_true true = refl
or_true false = refl

pub or_false : (a : Bool) → a ≡ (a || false)
or_false true = refl
or_false false = refl

pub or_assoc : (a b c : Bool) → ((a || b) || c) ≡ (a || (b || c))
or_assoc true b c = refl
or_assoc false b c = refl

pub or_first : (a b : Bool) → a ≡ true → (a || b) ≡ true
or_first true b h = refl
or_first false b h = absurd (cc h)

pub or_end : (a b : Bool) → b ≡ true → (a || b) ≡ true
or_end true b h = refl
or_end false b h = h

pub or_cases : (P : Type 0) (a b : Bool) → (a || b) ≡ true → (a ≡ true → P) → (b ≡ true → P) → P
or_cases P true b h f g = f refl
or_cases P false b h f g = g h

pub false_or : (a b : Bool) → a ≡ false → b ≡ false → (a || b) ≡ false
false_or true b h k = absurd (cc h)
false_or false b h k = k

pub and_false : (a : Bool) → (a && false) ≡ false
and_false true = refl
and_false false = refl

pub not_equal : (n v : ℕ) → n ≢ v → (n == v) ≡ false
not_equal n v ne = elim (eqb_tells n v) [ inl e ↦ absurd (ne e.1) | inr e ↦ e.0 ]

pub below_test : (k n : ℕ) → k < n → nat_lt k n ≡ true
below_test k n h = elim (leb_tells (suc k) n) [ inl e ↦ e.0 | inr e ↦ absurd (let m = e.1 in omega arith) ]

pub test_below : (k n : ℕ) → nat_lt k n ≡ true → k < n
test_below k n h = elim (leb_tells (suc k) n) [ inl e ↦ (let m = e.1 in omega arith) | inr e ↦ absurd (cc (e.0, h)) ]

pub any_stands : (A : Type 0) (test : A → Bool) (xs : List A) → list_any test xs ≡ true → (i : ℕ) × (x : A) × (slice_get xs i ≡ Some x) × (test x ≡ true)
any_stands A test [] h = absurd (cc h)
any_stands A test (x ∷ xs) h = elim (true_or_false (test x)) [
  | inl e ↦ (0, x, refl, e)
  | inr e ↦
      let rest = any_stands A test xs (rw e at h) in
      (suc rest.0, rest.1, rest.2, rest.3)
]

pub stands_any : (A : Type 0) (test : A → Bool) (xs : List A) (i : ℕ) (x : A) → slice_get xs i ≡ Some x → test x ≡ true → list_any test xs ≡ true
stands_any A test [] i x e h = absurd (cc e)
stands_any A test (y ∷ xs) zero x e h = rw (ap test (some_is y x e) ∙ h) refl
stands_any A test (y ∷ xs) (suc i) x e h = elim (true_or_false (test y)) [
  | inl k ↦ rw k refl
  | inr k ↦ rw k (stands_any A test xs i x e h)
]

pub drop_get : (A : Type 0) (k : ℕ) (xs : List A) (i : ℕ) → slice_get (drop k xs) i ≡ slice_get xs (k + i)
drop_get A zero xs i = let e : i ≡ 0 + i = omega arith in ap (λ z. slice_get xs z) e
drop_get A (suc k) [] i = refl
drop_get A (suc k) (x ∷ xs) i = let e : suc (k + i) ≡ suc k + i = omega arith in drop_get A k xs i ∙ ap (λ z. slice_get (x ∷ xs) z) e

pub seam : (A : Type 0) (pre : List A) (x : A) (post : List A) → slice_get (pre ++ x ∷ post) (length pre) ≡ Some x
seam A [] x post = refl
seam A (y ∷ pre) x post = seam A pre x post

pub one_of : {A : Type 0} → (test : A → Bool) (xs : List A) (i : ℕ) (x : A) → list_all test xs ≡ true → slice_get xs i ≡ Some x → test x ≡ true
one_of {A} test [] i x h e = absurd (cc e)
one_of {A} test (y ∷ xs) zero x h e = let same : Some y ≡ Some x = e in let k : y ≡ x = cc same in subst (λ z. test z ≡ true) k (both (test y) (list_all test xs) h).0
one_of {A} test (y ∷ xs) (suc i) x h e = one_of test xs i x (both (test y) (list_all test xs) h).1 e

-- ---- things that are seen as others, and found again by them

pub all_again : {A B : Type 0} (seen : A → B) (back : B → A) → ((a : A) → back (seen a) ≡ a) → (xs : List A) → map back (map seen xs) ≡ xs
all_again seen back h [] = refl
all_again seen back h (x ∷ xs) = ap (λ z. z ∷ map back (map seen xs)) (h x) ∙ ap (λ z. x ∷ z) (all_again seen back h xs)

pub found_again : {A B : Type 0} (seen : A → B) (back : B → A) → ((a : A) → back (seen a) ≡ a) → (xs : List A) (n : ℕ) (y : B) → slice_get (map seen xs) n ≡ Some y
    → (slice_get xs n ≡ Some (back y)) × (y ≡ seen (back y))
found_again seen back h [] n y e = absurd (cc e)
found_again seen back h (x ∷ xs) zero y e =
    let same : seen x ≡ y = some_is (seen x) y e in
    let is : x ≡ back y = sym (h x) ∙ ap back same in
    (ap Some is, sym same ∙ ap seen is)
found_again seen back h (x ∷ xs) (suc n) y e = found_again seen back h xs n y e
