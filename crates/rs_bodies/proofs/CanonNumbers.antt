-- The labels that are written for those that were read are numbered as these were, where what stands before them is written
-- for what stood before those.
use Rattle.std.proofs.Common.{◌≡◌, ℕ, zero, suc, List, [], ◌∷◌, ◌++◌, length, map, take, Bool, true, false, ◌||◌, nat_lt, if◌then◌else◌, Some, inl, inr, refl, sym, ap, ◌∙◌, subst, slice_get}
use Rattle.std.proofs.lemmas.List.{length-map, map-append}
use Rattle.std.proofs.lemmas.List.Folds.{list_any-append}
use Rattle.std.proofs.lemmas.Slice.Eq.{bytes_eq-Decides}
use Rattle.std.specs.Str.{bytes_eq}
use Rattle.rs_text.proofs.Basics.{some_is, or_first, or_cases, or_end}
use Rattle.rs_text.proofs.Gaps.{true_or_false}
use Rattle.rs_text.proofs.Naming.{grown_among, place_stands, placed_by, bytes_same, at_among, among_at, place_at}
use Rattle.rs_text.specs.Names.{number_or, names_with, is_among, place_of, differ}
use Rattle.rs_bodies.specs.declared.dialects.Dialect.{Dialect}
use Rattle.rs_bodies.specs.Graph.{labels_of, label_by_name}
use Rattle.rs_bodies.proofs.CanonForms.{Writing, label_as, canon, HasLabel, HasNames, label_stands}
use Rattle.rs_bodies.proofs.CanonNest.{Carries, carried}
use Rattle.rs_bodies.proofs.GraphsAgain.{AreReadAgain}
use Rattle.rs_bodies.proofs.LabelsHave.{has_instead}
use Rattle.rs_bodies.specs.Trees.{Body}

-- the labels that were read
abbrev pub labels_read : Writing → List (List ℕ)
labels_read w = w.numbers.names.labels

abbrev pub IsRead : Writing → List ℕ → Type 0
IsRead w l = is_among l (labels_read w) ≡ true

-- ---- names that are mapped

abbrev pub Injects : (List ℕ → List ℕ) → List (List ℕ) → Type 0
Injects f all = (x y : List ℕ) → is_among x all ≡ true → is_among y all ≡ true → f x ≡ f y → x ≡ y

same_test : (f : List ℕ → List ℕ) (all : List (List ℕ)) (x y : List ℕ) → Injects f all → is_among x all ≡ true → is_among y all ≡ true → bytes_eq (f x) (f y) ≡ bytes_eq x y
same_test f all x y inj a b = elim (true_or_false (bytes_eq x y)) [
  | inl e ↦ (bytes_eq-Decides (f x) (f y)).1 (ap f ((bytes_eq-Decides x y).0 e)) ∙ sym e
  | inr e ↦ elim (true_or_false (bytes_eq (f x) (f y))) [
    | inl g ↦ absurd (cc ((bytes_eq-Decides x y).1 (inj x y a b ((bytes_eq-Decides (f x) (f y)).0 g)), e))
    | inr g ↦ g ∙ sym e
  ]
]

or_same : (a b c d : Bool) → a ≡ c → b ≡ d → (a || b) ≡ (c || d)
or_same a b c d e f = cc

pub among_map : (f : List ℕ → List ℕ) (all : List (List ℕ)) (x : List ℕ) (names : List (List ℕ)) → Injects f all → is_among x all ≡ true
    → ((y : List ℕ) → is_among y names ≡ true → is_among y all ≡ true) → is_among (f x) (map f names) ≡ is_among x names
among_map f all x [] inj a within = refl
among_map f all x (y ∷ names) inj a within =
    or_same (bytes_eq (f y) (f x)) (is_among (f x) (map f names)) (bytes_eq y x) (is_among x names)
    (same_test f all y x inj (within y (or_first (bytes_eq y y) (is_among y names) (bytes_same y))) a) (among_map f all x names inj a (λ z h. within z (or_end (bytes_eq y z) (is_among z names) h)))

pub grown_map : (f : List ℕ → List ℕ) (all xs names : List (List ℕ)) → Injects f all → ((y : List ℕ) → is_among y names ≡ true → is_among y all ≡ true)
    → ((y : List ℕ) → is_among y xs ≡ true → is_among y all ≡ true) → names_with (map f names) (map f xs) ≡ map f (names_with names xs)
grown_map f all [] names inj old new = refl
grown_map f all (x ∷ xs) names inj old new =
    let there : is_among x all ≡ true = new x (or_first (bytes_eq x x) (is_among x xs) (bytes_same x)) in
    let test : is_among (f x) (map f names) ≡ is_among x names = among_map f all x names inj there old in
    let step : Bool → List (List ℕ) = λ z. names_with (if z then map f names else map f names ++ f x ∷ []) (map f xs) in
    let plain : Bool → List (List ℕ) = λ z. map f (names_with (if z then names else names ++ x ∷ []) xs) in
    elim (true_or_false (is_among x names)) [
      | inl e ↦ ap step (test ∙ e) ∙ grown_map f all xs names inj old (λ y h. new y (or_end (bytes_eq x y) (is_among y xs) h)) ∙ ap plain (sym e)
      | inr e ↦ ap step (test ∙ e) ∙ ap (λ z. names_with z (map f xs)) (sym (map-append f names (x ∷ [])))
          ∙ grown_map f all xs (names ++ x ∷ []) inj
          (λ y h. or_cases (is_among y all ≡ true) (is_among y names) (is_among y (x ∷ [])) (sym (list_any-append (λ z. bytes_eq z y) names (x ∷ [])) ∙ h) (λ a. old y a)
          (λ a. or_cases (is_among y all ≡ true) (bytes_eq x y) false a (λ b. subst (λ (z : List ℕ). is_among z all ≡ true) ((bytes_eq-Decides x y).0 b) there) (λ b. absurd (cc b))))
          (λ y h. new y (or_end (bytes_eq x y) (is_among y xs) h))
          ∙ ap plain (sym e)
    ]

differ_map : (f : List ℕ → List ℕ) (all names : List (List ℕ)) → Injects f all → ((y : List ℕ) → is_among y names ≡ true → is_among y all ≡ true) → differ (map f names) ≡ differ names
differ_map f all [] inj within = refl
differ_map f all (x ∷ names) inj within =
    let own : is_among x all ≡ true = within x (or_first (bytes_eq x x) (is_among x names) (bytes_same x)) in
    let later : (y : List ℕ) → is_among y names ≡ true → is_among y all ≡ true = λ y h. within y (or_end (bytes_eq x y) (is_among y names) h) in
    ap (λ z. if z then false else differ (map f names)) (among_map f all x names inj own later) ∙ ap (λ z. if is_among x names then false else z) (differ_map f all names inj later)

take_map : (f : List ℕ → List ℕ) (all labels : List (List ℕ)) → ((i : ℕ) (x : List ℕ) → slice_get all i ≡ Some x → slice_get labels i ≡ Some (f x)) → map f all ≡ take (length all) labels
take_map f [] labels h = refl
take_map f (x ∷ all) [] h = absurd (cc (h 0 x refl))
take_map f (x ∷ all) (l ∷ labels) h = ap (λ z. z ∷ map f all) (sym (some_is l (f x) (h 0 x refl))) ∙ ap (λ z. l ∷ z) (take_map f all labels (λ i y e. h (suc i) y e))

-- ---- the labels

-- the first labels and those of the body were read, and each of them has a name
pub record WereRead {dia : Dialect} (w : Writing) (first : List (List ℕ)) (t : Body dia) : Type 0 where
  pub read : w.numbers.names.labels ≡ names_with first (labels_of dia t)
  pub read_differ : differ (labels_read w) ≡ true
  pub named : (l : List ℕ) → IsRead w l → HasLabel w l
  pub names_differ : differ w.names.labels ≡ true

pub first_read : {dia : Dialect} (w : Writing) (first : List (List ℕ)) (t : Body dia) → WereRead w first t → (l : List ℕ) → is_among l first ≡ true → IsRead w l
first_read {dia} w first t r l h = ap (λ z. is_among l z) r.read ∙ grown_among (labels_of dia t) first l ∙ or_first (is_among l first) (is_among l (labels_of dia t)) h

body_read : {dia : Dialect} (w : Writing) (first : List (List ℕ)) (t : Body dia) → WereRead w first t → (l : List ℕ) → is_among l (labels_of dia t) ≡ true → IsRead w l
body_read {dia} w first t r l h = ap (λ z. is_among l z) r.read ∙ grown_among (labels_of dia t) first l ∙ or_end (is_among l first) (is_among l (labels_of dia t)) h

-- the label that was read at the place i is written by the name there
pub label_at : {dia : Dialect} (w : Writing) (first : List (List ℕ)) (t : Body dia) → WereRead w first t → (i : ℕ) (l : List ℕ) → slice_get (labels_read w) i ≡ Some l
    → slice_get w.names.labels i ≡ Some (label_as w l)
label_at w first t r i l e =
    let place : (label_by_name w.numbers l).0 ≡ i = ap number_or (place_at (labels_read w) i l r.read_differ e) in
    ap (λ z. slice_get w.names.labels z) (sym place) ∙ label_stands w l (r.named l (at_among (labels_read w) i l e))

labels_inject : {dia : Dialect} (w : Writing) (first : List (List ℕ)) (t : Body dia) → WereRead w first t → Injects (label_as w) (labels_read w)
labels_inject w first t r x y a b e =
    let i = among_at (labels_read w) x a in
    let j = among_at (labels_read w) y b in
    let f : List ℕ → List ℕ = label_as w in
    let p : place_of (f x) w.names.labels ≡ Some i.0 = place_at w.names.labels i.0 (f x) r.names_differ (label_at w first t r i.0 x i.1) in
    let q : place_of (f y) w.names.labels ≡ Some j.0 = place_at w.names.labels j.0 (f y) r.names_differ (label_at w first t r j.0 y j.1) in
    let same : i.0 ≡ j.0 = some_is i.0 j.0 (sym p ∙ ap (λ z. place_of z w.names.labels) e ∙ q) in
    some_is x y (sym i.1 ∙ ap (λ z. slice_get (labels_read w) z) same ∙ j.1)

-- what is written for the labels that were read are the first of the names
pub labels_taken : {dia : Dialect} (w : Writing) (first : List (List ℕ)) (t : Body dia) → WereRead w first t → map (label_as w) (labels_read w) ≡ take (length (labels_read w)) w.names.labels
labels_taken w first t r = take_map (label_as w) (labels_read w) w.names.labels (label_at w first t r)

mapped_at : (f : List ℕ → List ℕ) (all : List (List ℕ)) (i : ℕ) (l : List ℕ) → slice_get all i ≡ Some l → slice_get (map f all) i ≡ Some (f l)
mapped_at f [] i l e = absurd (cc e)
mapped_at f (x ∷ all) zero l e = ap (λ z. Some (f z)) (some_is x l e)
mapped_at f (x ∷ all) (suc i) l e = mapped_at f all i l e

-- ---- what is read leads to what is written

abbrev Mapped : Writing → List (List ℕ) → List (List ℕ) → Type 0
Mapped w ls labels = (labels ≡ map (label_as w) ls) × ((y : List ℕ) → is_among y ls ≡ true → IsRead w y)

one_read : (w : Writing) (l y : List ℕ) → IsRead w l → is_among y (l ∷ []) ≡ true → IsRead w y
one_read w l y p a = or_cases (IsRead w y) (bytes_eq l y) false a (λ b. subst (λ (z : List ℕ). IsRead w z) ((bytes_eq-Decides l y).0 b) p) (λ b. absurd (cc b))

carries : {dia : Dialect} (w : Writing) (first : List (List ℕ)) (t : Body dia) → WereRead w first t → Carries (IsRead w) (Mapped w) w
carries w first t r =
    let f : List ℕ → List ℕ = label_as w in
    let inj = labels_inject w first t r in
    record {
      room = λ l ls labels p k h.
          subst (λ (z : List (List ℕ)). (is_among (f l) z || nat_lt (length z) 256) ≡ true) (sym k.0)
          (ap (λ z. is_among (f l) (map f ls) || nat_lt z 256) (length-map ls f) ∙ ap (λ z. z || nat_lt (length ls) 256) (among_map f (labels_read w) l ls inj p k.1) ∙ h);
      grows = λ l ls labels p k. (
        ap (λ z. names_with z (f l ∷ [])) k.0 ∙ grown_map f (labels_read w) (l ∷ []) ls inj k.1 (λ y a. one_read w l y p a),
        (λ y a. or_cases (IsRead w y) (is_among y ls) (is_among y (l ∷ [])) (sym (grown_among (l ∷ []) ls y) ∙ a) (λ b. k.1 y b) (λ b. one_read w l y p b)),
      );
    }

-- the labels are read again, where before them stands what is written for the first ones
pub read_again : {dia : Dialect} (w : Writing) (first before : List (List ℕ)) (t : Body dia) → WereRead w first t → HasNames w (HasLabel w) t → before ≡ map (label_as w) first
    → AreReadAgain (IsRead w) (Mapped w) w t first before (map (label_as w) (labels_read w))
read_again {dia} w first before t r has is =
    let f : List ℕ → List ℕ = label_as w in
    let c = carries w first t r in
    let read : HasNames w (IsRead w) t = has_instead w (HasLabel w) (IsRead w) t has (body_read w first t r) in
    let begins : Mapped w first before = (is, first_read w first t r) in
    let ends : names_with before (labels_of dia (canon w t [] 0)) ≡ map f (labels_read w) = (carried (IsRead w) (Mapped w) w t [] 0 first before c read begins).0 ∙ ap (map f) (sym r.read) in
    let written_differ : differ (map f (labels_read w)) ≡ true = differ_map f (labels_read w) (labels_read w) (labels_inject w first t r) (λ y h. h) ∙ r.read_differ in
    record {
      has = read;
      carries = c;
      begins = begins;
      ends = ends;
      numbers = λ l a. (
          let at = placed_by (place_of l (labels_read w)) l (labels_read w) refl a in
          ap number_or (place_at (map f (labels_read w)) at.0 (f l) written_differ (mapped_at f (labels_read w) at.0 l (place_stands (labels_read w) l at.0 at.1).present)) ∙ sym (ap number_or at.1));
    }
