use Rattle.std.proofs.Common.{◌≡◌, ◌≢◌, ℕ, zero, suc, ◌+◌, ◌<◌, List, [], ◌∷◌, ◌++◌, length, Bool, true, false, if◌then◌else◌, ◌&&◌, ◌||◌, Option, Some, None, ◌⊎◌, ◌↔◌, inl, inr, refl, sym, ap, ◌∙◌}
use Rattle.std.proofs.Common.{arith, slice_get, subst}
use Rattle.std.proofs.lemmas.Bool.Decides.{Decides-by_and}
use Rattle.std.proofs.lemmas.List.Folds.{list_any-append, list_all-append}
use Rattle.std.proofs.lemmas.Slice.Eq.{bytes_eq-Decides}
use Rattle.std.proofs.lemmas.Map.Made.{AllPairs-from_IsDistinct, IsDistinct-from_AllPairs}
use Rattle.std.specs.Bool.{Decides, IsTrue}
use Rattle.std.specs.List.{list_all, All, AllPairs, AllByRecursion, IsDistinct}
use Rattle.std.specs.Prelude.{slice_get}
use Rattle.std.specs.Str.{bytes_eq}
use Rattle.rs_text.specs.Names.{place_from, place_of, is_among, names_with, differ}
use Rattle.rs_text.specs.NamePlaces.{StandsFirst}
use Rattle.rs_model.specs.Data.{Names_data}
use Rattle.rs_text.specs.Sound.{are_sound, IsSound}
use Rattle.rs_text.specs.Words.{is_word, is_role_word}
use Rattle.rs_text.proofs.Gaps.{true_or_false}
use Rattle.rs_text.proofs.Basics.{stands_any, any_stands, some_is, both}

-- ---- places

pub bytes_same : (xs : List ℕ) → bytes_eq xs xs ≡ true
bytes_same xs = (bytes_eq-Decides xs xs).1 refl

-- a name keeps its place when others come behind it
kept_if : (test : Bool) (n : ℕ) (p q : Option ℕ) (k : ℕ) → (p ≡ Some k → q ≡ Some k) → (if test then Some n else p) ≡ Some k → (if test then Some n else q) ≡ Some k
kept_if true n p q k f h = h
kept_if false n p q k f h = f h

stays_from : (names more : List (List ℕ)) (name : List ℕ) (n k : ℕ) → place_from n name names ≡ Some k → place_from n name (names ++ more) ≡ Some k
stays_from [] more name n k h = cc
stays_from (x ∷ names) more name n k h = kept_if (bytes_eq x name) n (place_from (suc n) name names) (place_from (suc n) name (names ++ more)) k (λ g. stays_from names more name (suc n) k g) h

pub place_stays : (names more : List (List ℕ)) (name : List ℕ) (k : ℕ) → place_of name names ≡ Some k → place_of name (names ++ more) ≡ Some k
place_stays names more name k h = stays_from names more name 0 k h

-- a new name gets the place behind all others
new_from : (names : List (List ℕ)) (name : List ℕ) (n : ℕ) → place_from n name names ≡ None → place_from n name (names ++ name ∷ []) ≡ Some (n + length names)
new_from [] name n h = rw bytes_same (ap Some (omega arith))
new_from (x ∷ names) name n h = elim (true_or_false (bytes_eq x name)) [
  | inl e ↦ absurd (cc (rw e at h))
  | inr e ↦ rw e (new_from names name (suc n) (rw e at h) ∙ ap Some (omega arith))
]

pub place_of_new : (names : List (List ℕ)) (name : List ℕ) → place_of name names ≡ None → place_of name (names ++ name ∷ []) ≡ Some (length names)
place_of_new names name h = new_from names name 0 h ∙ ap Some (omega arith)

-- a name has a place exactly where it is among the names
pub not_among : (names : List (List ℕ)) (name : List ℕ) (n : ℕ) → place_from n name names ≡ None → is_among name names ≡ false
not_among [] name n h = refl
not_among (x ∷ names) name n h = elim (true_or_false (bytes_eq x name)) [
  | inl e ↦ absurd (cc (rw e at h))
  | inr e ↦ rw e (not_among names name (suc n) (rw e at h))
]

pub among : (names : List (List ℕ)) (name : List ℕ) (n k : ℕ) → place_from n name names ≡ Some k → is_among name names ≡ true
among [] name n k h = cc
among (x ∷ names) name n k h = elim (true_or_false (bytes_eq x name)) [
  | inl e ↦ rw e refl
  | inr e ↦ rw e (among names name (suc n) k (rw e at h))
]

some_same : (n k : ℕ) → Some n ≡ Some k → k ≡ n + 0
some_same n k h = let e : n ≡ k = cc in omega arith

before : (x : List ℕ) (names : List (List ℕ)) (name : List ℕ) (i : ℕ) → bytes_eq x name ≡ false → ((k : ℕ) → k < i → slice_get names k ≢ Some name) → (k : ℕ) → k < suc i
    → slice_get (x ∷ names) k ≢ Some name
before x names name i e rest zero below h = cc ((bytes_eq-Decides x name).1 (some_is x name h), e)
before x names name i e rest (suc k) below h = rest k (omega arith) h

stands_from : (names : List (List ℕ)) (name : List ℕ) (n k : ℕ) → place_from n name names ≡ Some k → (i : ℕ) × (k ≡ n + i) × StandsFirst name names i
stands_from [] name n k h = absurd (cc h)
stands_from (x ∷ names) name n k h = elim (true_or_false (bytes_eq x name)) [
  | inl e ↦ (0, some_same n k (rw e at h), record { present = ap Some ((bytes_eq-Decides x name).0 e); first = λ i below. absurd (omega arith) })
  | inr e ↦
      let rest = stands_from names name (suc n) k (rw e at h) in
      let shift = rest.1 in
      (suc rest.0, omega arith, record { present = rest.2.present; first = before x names name rest.0 e rest.2.first })
]

pub place_stands : (names : List (List ℕ)) (name : List ℕ) (k : ℕ) → place_of name names ≡ Some k → StandsFirst name names k
place_stands names name k h =
    let found = stands_from names name 0 k h in
    let shift = found.1 in
    let e : found.0 ≡ k = omega arith in
    rw e at found.2

pub stands_place : (names : List (List ℕ)) (name : List ℕ) (n i : ℕ) → StandsFirst name names i → place_from n name names ≡ Some (n + i)
stands_place [] name n i s = absurd (cc s.present)
stands_place (x ∷ names) name n zero s = rw ((bytes_eq-Decides x name).1 (some_is x name s.present)) (ap Some (omega arith))
stands_place (x ∷ names) name n (suc i) s = elim (true_or_false (bytes_eq x name)) [
  | inl e ↦ absurd (s.first 0 (omega arith) (ap Some ((bytes_eq-Decides x name).0 e)))
  | inr e ↦ rw e (stands_place names name (suc n) i (record { present = s.present; first = λ k below. s.first (suc k) (omega arith) }) ∙ ap Some (omega arith))
]

or_left : (a b : Bool) → (a || b) ≡ false → a ≡ false
or_left true b h = absurd (cc h)
or_left false b h = refl

or_right : (a b : Bool) → (a || b) ≡ false → b ≡ false
or_right true b h = absurd (cc h)
or_right false b h = h

pub place_law : (name : List ℕ) (names : List (List ℕ)) (place : ℕ) → (place_of name names ≡ Some place) ↔ StandsFirst name names place
place_law name names place = (place_stands names name place, λ s. stands_place names name 0 place s ∙ ap Some (omega arith))

absent_at : (names : List (List ℕ)) (name : List ℕ) (k : ℕ) → is_among name names ≡ false → slice_get names k ≢ Some name
absent_at [] name k h e = cc
absent_at (x ∷ names) name zero h e = cc ((bytes_eq-Decides x name).1 (some_is x name e), or_left (bytes_eq x name) (is_among name names) h)
absent_at (x ∷ names) name (suc k) h e = absent_at names name k (or_right (bytes_eq x name) (is_among name names) h) e

pub none_or_some : (o : Option ℕ) → (o ≡ None) ⊎ ((k : ℕ) × (o ≡ Some k))
none_or_some None = inl refl
none_or_some (Some k) = inr (k, refl)

pub absent_law : (name : List ℕ) (names : List (List ℕ)) → (place_of name names ≡ None) ↔ ((k : ℕ) → slice_get names k ≢ Some name)
absent_law name names = (
  (λ h k. absent_at names name k (not_among names name 0 h)),
  (λ none. elim (none_or_some (place_of name names)) [
    | inl h ↦ h
    | inr found ↦ absurd (none found.0 (place_stands names name found.0 found.1).present)
  ]),
)

-- ---- growing

and_left : (a b : Bool) → (a && b) ≡ true → a ≡ true
and_left true b h = refl
and_left false b h = absurd (cc h)

and_right : (a b : Bool) → (a && b) ≡ true → b ≡ true
and_right true b h = h
and_right false b h = absurd (cc h)

pub grown_append : (xs ys names : List (List ℕ)) → names_with names (xs ++ ys) ≡ names_with (names_with names xs) ys
grown_append [] ys names = refl
grown_append (x ∷ xs) ys names = grown_append xs ys (if is_among x names then names else names ++ x ∷ [])

other_way : (x y : List ℕ) → bytes_eq x y ≡ false → bytes_eq y x ≡ false
other_way x y h = elim (true_or_false (bytes_eq y x)) [
  | inl e ↦ absurd (cc ((bytes_eq-Decides x y).1 (sym ((bytes_eq-Decides y x).0 e)), h))
  | inr e ↦ e
]

differ_push : (names : List (List ℕ)) (x : List ℕ) → differ names ≡ true → is_among x names ≡ false → differ (names ++ x ∷ []) ≡ true
differ_push [] x h k = refl
differ_push (y ∷ names) x h k = elim (true_or_false (is_among y names)) [
  | inl e ↦ absurd (cc (rw e at h))
  | inr e ↦
      rw (list_any-append (λ z. bytes_eq z y) names (x ∷ []), e, other_way y x (or_left (bytes_eq y x) (is_among x names) k))
      (differ_push names x (rw e at h) (or_right (bytes_eq y x) (is_among x names) k))
]

pub grown_differ : (xs names : List (List ℕ)) → differ names ≡ true → differ (names_with names xs) ≡ true
grown_differ [] names h = h
grown_differ (x ∷ xs) names h = elim (true_or_false (is_among x names)) [
  | inl e ↦ rw e (grown_differ xs names h)
  | inr e ↦ rw e (grown_differ xs (names ++ x ∷ []) (differ_push names x h e))
]

pub grown_all : (test : List ℕ → Bool) (xs names : List (List ℕ)) → list_all test names ≡ true → list_all test xs ≡ true → list_all test (names_with names xs) ≡ true
grown_all test [] names h k = h
grown_all test (x ∷ xs) names h k = elim (true_or_false (is_among x names)) [
  | inl e ↦ rw e (grown_all test xs names h (and_right (test x) (list_all test xs) k))
  | inr e ↦ rw e (grown_all test xs (names ++ x ∷ []) (rw (list_all-append test names (x ∷ []), h, and_left (test x) (list_all test xs) k) refl) (and_right (test x) (list_all test xs) k))
]

pub grown_stays : (more names : List (List ℕ)) (name : List ℕ) (k : ℕ) → place_of name names ≡ Some k → place_of name (names_with names more) ≡ Some k
grown_stays [] names name k h = h
grown_stays (x ∷ more) names name k h = elim (true_or_false (is_among x names)) [
  | inl e ↦ rw e (grown_stays more names name k h)
  | inr e ↦ rw e (grown_stays more (names ++ x ∷ []) name k (place_stays names (x ∷ []) name k h))
]

or_nothing : (a : Bool) → a ≡ (a || false)
or_nothing true = refl
or_nothing false = refl

regroup : (a b c : Bool) → ((a || (b || false)) || c) ≡ (a || (b || c))
regroup true b c = refl
regroup false true c = refl
regroup false false c = refl

-- a name that is among them needs no second place
once : (x : List ℕ) (more names : List (List ℕ)) (name : List ℕ) → is_among x names ≡ true → (is_among name names || is_among name more) ≡ (is_among name names || is_among name (x ∷ more))
once x more names name h = elim (true_or_false (bytes_eq x name)) [
  | inl e ↦ let has : is_among name names ≡ true = rw ((bytes_eq-Decides x name).0 e) at h in rw has refl
  | inr e ↦ rw e refl
]

pushed : (x : List ℕ) (more names : List (List ℕ)) (name : List ℕ) → (is_among name (names ++ x ∷ []) || is_among name more) ≡ (is_among name names || is_among name (x ∷ more))
pushed x more names name = rw (list_any-append (λ z. bytes_eq z name) names (x ∷ [])) (regroup (is_among name names) (bytes_eq x name) (is_among name more))

pub grown_among : (more names : List (List ℕ)) (name : List ℕ) → is_among name (names_with names more) ≡ (is_among name names || is_among name more)
grown_among [] names name = or_nothing (is_among name names)
grown_among (x ∷ more) names name = elim (true_or_false (is_among x names)) [
  | inl e ↦ rw e (grown_among more names name ∙ once x more names name e)
  | inr e ↦ rw e (grown_among more (names ++ x ∷ []) name ∙ pushed x more names name)
]

-- ---- sound names

distinct_others : (xs : List (List ℕ)) (x : List ℕ) → is_among x xs ≡ false → AllByRecursion (λ y. bytes_eq x y ≡ false) xs
distinct_others [] x h = tt
distinct_others (y ∷ xs) x h = (other_way y x (or_left (bytes_eq y x) (is_among x xs) h), distinct_others xs x (or_right (bytes_eq y x) (is_among x xs) h))

others_distinct : (xs : List (List ℕ)) (x : List ℕ) → AllByRecursion (λ y. bytes_eq x y ≡ false) xs → is_among x xs ≡ false
others_distinct [] x h = refl
others_distinct (y ∷ xs) x h = rw (other_way x y h.0) (others_distinct xs x h.1)

differ_distinct : (xs : List (List ℕ)) → differ xs ≡ true → IsDistinct bytes_eq xs
unfolding IsDistinct
differ_distinct [] h = tt
differ_distinct (x ∷ xs) h = elim (true_or_false (is_among x xs)) [
  | inl e ↦ absurd (cc (rw e at h))
  | inr e ↦ (distinct_others xs x e, differ_distinct xs (rw e at h))
]

distinct_differ : (xs : List (List ℕ)) → IsDistinct bytes_eq xs → differ xs ≡ true
unfolding IsDistinct
distinct_differ [] h = refl
distinct_differ (x ∷ xs) h = rw (others_distinct xs x h.0) (distinct_differ xs h.1)

decides_differ : (xs : List (List ℕ)) → Decides (differ xs) (AllPairs (λ x y. x ≢ y) xs)
decides_differ xs = (λ h. AllPairs-from_IsDistinct bytes_eq-Decides xs (differ_distinct xs h), λ h. distinct_differ xs (IsDistinct-from_AllPairs bytes_eq-Decides xs h))

decides_all : (test : List ℕ → Bool) (xs : List (List ℕ)) → Decides (list_all test xs) (All (λ x. test x ≡ true) xs)
decides_all test xs = Decides-by_and test (λ x. test x ≡ true) (list_all test) (λ x. (λ h. h, λ h. h)) refl (λ _ _. refl) xs

-- the test of sound names is right
pub decides_sound : (names : Names_data) → IsTrue (are_sound names) ↔ IsSound names
decides_sound names = (
  (λ h.
      let roles = and_left (differ names.roles && list_all is_role_word names.roles) (differ names.labels && list_all is_word names.labels) h in
      let labels = and_right (differ names.roles && list_all is_role_word names.roles) (differ names.labels && list_all is_word names.labels) h in
      record {
        roles_differ = (decides_differ names.roles).0 (and_left (differ names.roles) (list_all is_role_word names.roles) roles);
        roles_are_words = (decides_all is_role_word names.roles).0 (and_right (differ names.roles) (list_all is_role_word names.roles) roles);
        labels_differ = (decides_differ names.labels).0 (and_left (differ names.labels) (list_all is_word names.labels) labels);
        labels_are_words = (decides_all is_word names.labels).0 (and_right (differ names.labels) (list_all is_word names.labels) labels);
      }),
  (λ s. rw (
    (decides_differ names.roles).1 s.roles_differ,
    (decides_all is_role_word names.roles).1 s.roles_are_words,
    (decides_differ names.labels).1 s.labels_differ,
    (decides_all is_word names.labels).1 s.labels_are_words,
  ) refl),
)

pub at_among : (names : List (List ℕ)) (i : ℕ) (x : List ℕ) → slice_get names i ≡ Some x → is_among x names ≡ true
at_among names i x e = stands_any (List ℕ) (λ z. bytes_eq z x) names i x e (bytes_same x)

pub among_at : (names : List (List ℕ)) (x : List ℕ) → is_among x names ≡ true → (i : ℕ) × (slice_get names i ≡ Some x)
among_at names x h =
    let f = any_stands (List ℕ) (λ z. bytes_eq z x) names h in
    (f.0, f.2 ∙ ap Some ((bytes_eq-Decides f.1 x).0 f.3))

pub differ_rest : (c b : Bool) → (if c then false else b) ≡ true → (c ≡ false) × (b ≡ true)
differ_rest true b h = absurd (cc h)
differ_rest false b h = (refl, h)

pub place_at_from : (names : List (List ℕ)) (n i : ℕ) (x : List ℕ) → differ names ≡ true → slice_get names i ≡ Some x → place_from n x names ≡ Some (n + i)
place_at_from [] n i x d e = absurd (cc e)
place_at_from (y ∷ names) n zero x d e = let same : n ≡ n + 0 = omega arith in rw (subst (λ (z : List ℕ). bytes_eq y z ≡ true) (some_is y x e) (bytes_same y)) (ap Some same)
place_at_from (y ∷ names) n (suc i) x d e = elim (true_or_false (bytes_eq y x)) [
  | inl h ↦ (
      let there : is_among x names ≡ true = at_among names i x e in
      let here : is_among y names ≡ true = subst (λ (z : List ℕ). is_among z names ≡ true) (sym ((bytes_eq-Decides y x).0 h)) there in
      absurd (cc (here, (differ_rest (is_among y names) (differ names) d).0)))
  | inr h ↦ (let same : suc n + i ≡ n + suc i = omega arith in rw h (place_at_from names (suc n) i x (differ_rest (is_among y names) (differ names) d).1 e ∙ ap Some same))
]

pub place_at : (names : List (List ℕ)) (i : ℕ) (x : List ℕ) → differ names ≡ true → slice_get names i ≡ Some x → place_of x names ≡ Some i
place_at names i x d e = let same : 0 + i ≡ i = omega arith in place_at_from names 0 i x d e ∙ ap Some same

pub all_at : (test : List ℕ → Bool) (xs : List (List ℕ)) (i : ℕ) (x : List ℕ) → list_all test xs ≡ true → slice_get xs i ≡ Some x → test x ≡ true
all_at test [] i x h e = absurd (cc e)
all_at test (y ∷ xs) zero x h e = subst (λ (z : List ℕ). test z ≡ true) (some_is y x e) (both (test y) (list_all test xs) h).0
all_at test (y ∷ xs) (suc i) x h e = all_at test xs i x (both (test y) (list_all test xs) h).1 e

pub new_differ : (names : List (List ℕ)) (w : List ℕ) → is_among w names ≡ false → differ names ≡ true → differ (names ++ w ∷ []) ≡ true
new_differ names w e h = rw e at (grown_differ (w ∷ []) names h)

pub new_all : (test : List ℕ → Bool) (names : List (List ℕ)) (w : List ℕ) → is_among w names ≡ false → list_all test names ≡ true → test w ≡ true → list_all test (names ++ w ∷ []) ≡ true
new_all test names w e h k = rw e at (grown_all test (w ∷ []) names h (rw k refl))

pub placed_by : (o : Option ℕ) (x : List ℕ) (names : List (List ℕ)) → place_of x names ≡ o → is_among x names ≡ true → (k : ℕ) × (place_of x names ≡ Some k)
placed_by None x names e h = absurd (cc (not_among names x 0 e, h))
placed_by (Some k) x names e h = (k, e)

pub absent_by : (o : Option ℕ) (x : List ℕ) (names : List (List ℕ)) → place_of x names ≡ o → is_among x names ≡ false → place_of x names ≡ None
absent_by None x names e h = e
absent_by (Some k) x names e h = absurd (cc (among names x 0 k e, h))

pub grown_one : (names xs : List (List ℕ)) (l : List ℕ) → names_with (names_with names (l ∷ [])) xs ≡ names_with names (l ∷ xs)
grown_one names xs l = refl

pub grown_new : (names : List (List ℕ)) (l : List ℕ) → place_of l names ≡ None → names_with names (l ∷ []) ≡ names ++ l ∷ []
grown_new names l e = ap (λ z. if z then names else names ++ l ∷ []) (not_among names l 0 e)

pub grown_old : (names : List (List ℕ)) (l : List ℕ) (k : ℕ) → place_of l names ≡ Some k → names_with names (l ∷ []) ≡ names
grown_old names l k e = ap (λ z. if z then names else names ++ l ∷ []) (among names l 0 k e)
