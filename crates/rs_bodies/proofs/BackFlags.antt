-- The flags tell which places are gone back to.
use Rattle.std.proofs.Common.{◌≡◌, ◌⊎◌, ℕ, zero, suc, ◌+◌, ◌<◌, ◌≤◌, List, [], ◌∷◌, length, drop, Bool, true, false, ◌&&◌, Some, get_or, set, slice_get, slice_set, replicate, nat_le, nat_lt}
use Rattle.std.proofs.Common.{if◌then◌else◌, refl, sym, ◌∙◌, subst, inl, inr, arith}
use Rattle.std.proofs.lemmas.Bool.Decides.{eqb_tells, leb_tells}
use Rattle.std.proofs.lemmas.List.{get_or-set_same, get_or-set_other, length-replicate, length-set}
use Rattle.std.proofs.lemmas.Option.{slice_get_within}
use Rattle.rs_model.specs.declared.graph.Arm.{Arm}
use Rattle.rs_text.proofs.Basics.{some_is}
use Rattle.rs_bodies.specs.declared.dialects.Head.{Head}
use Rattle.rs_bodies.specs.declared.places.Place.{Place}
use Rattle.rs_bodies.specs.declared.places.Place.TheVariants as place
use Rattle.rs_bodies.specs.Places.{choice, IsGoneBackTo}
use Rattle.rs_bodies.specs.Printing.{flags_behind_arms, marked_place, flags_behind_place, flags_behind_places, back_flags}
use Rattle.rs_bodies.proofs.BackAgain.{AreBack}

abbrev one_marked : ℕ → Arm → List Bool → List Bool
one_marked n a flags = if nat_le a.next n && nat_lt a.next (length flags) then slice_set flags a.next true else flags

-- ---- one mark

-- whether it is set
record Tells (number : ℕ) (a : Arm) (flags : List Bool) : Type 0 where
  later : a.next ≤ number
  within : a.next < length flags
  sets : one_marked number a flags ≡ set flags a.next true

tells : (number : ℕ) (a : Arm) (flags : List Bool) → Tells number a flags ⊎ ((one_marked number a flags ≡ flags) × (a.next ≤ number → a.next < length flags → ⊥))
tells number a flags = elim (leb_tells a.next number) [
  | inl e ↦ elim (leb_tells (suc a.next) (length flags)) [
    | inl f ↦ inl (record { later = e.1; within = (let k = f.1 in omega arith); sets = rw (e.0, f.0) refl })
    | inr f ↦ inr (rw (e.0, f.0) refl, λ _ h. (let k = f.1 in omega arith))
  ]
  | inr e ↦ inr (rw e.0 refl, λ h _. (let k = e.1 in omega arith))
]

set_tells : (flags : List Bool) (i n : ℕ) → get_or (set flags i true) n false ≡ true → (n ≡ i) ⊎ (get_or flags n false ≡ true)
set_tells flags i n h = elim (eqb_tells n i) [
  | inl e ↦ inl e.1
  | inr e ↦ inr (sym (get_or-set_other flags i n true false e.1) ∙ h)
]

set_keeps : (flags : List Bool) (i n : ℕ) → i < length flags → get_or flags n false ≡ true → get_or (set flags i true) n false ≡ true
set_keeps flags i n within h = elim (eqb_tells n i) [
  | inl e ↦ rw e.1 (get_or-set_same flags i true false within)
  | inr e ↦ get_or-set_other flags i n true false e.1 ∙ h
]

-- ---- what is marked is gone back to

abbrev AreSound : List Place → List Bool → Type 0
AreSound p flags = (n : ℕ) → get_or flags n false ≡ true → IsGoneBackTo p n

-- an arm that the mark is for
abbrev Leads : List Place → ℕ → Arm → Type 0
Leads p number a = a.next ≤ number → IsGoneBackTo p a.next

one_sound : (p : List Place) (number : ℕ) (a : Arm) (flags : List Bool) → Leads p number a → AreSound p flags → AreSound p (one_marked number a flags)
one_sound p number a flags leads sound n h = elim (tells number a flags) [
  | inl e ↦ elim (set_tells flags a.next n (rw e.sets at h)) [
    | inl same ↦ rw same (leads e.later)
    | inr old ↦ sound n old
  ]
  | inr e ↦ sound n (rw e.0 at h)
]

abbrev Later : {X : Type 0} → List X → List X → ℕ → Type 0
Later {X} rest all k = (i : ℕ) (x : X) → slice_get rest i ≡ Some x → slice_get all (k + i) ≡ Some x

later_tail : {X : Type 0} → (x : X) (rest all : List X) (k : ℕ) → Later (x ∷ rest) all k → Later rest all (k + 1)
later_tail x rest all k h i y e = subst (λ j. slice_get all j ≡ Some y) (omega arith) (h (suc i) y e)

later_head : {X : Type 0} → (x : X) (rest all : List X) (k : ℕ) → Later (x ∷ rest) all k → slice_get all k ≡ Some x
later_head x rest all k h = subst (λ j. slice_get all j ≡ Some x) (omega arith) (h 0 x refl)

leads_back : (p : List Place) (number index : ℕ) (h : Head) (all : List Arm) (a : Arm) → slice_get p number ≡ Some (choice h all) → slice_get all index ≡ Some a → Leads p number a
leads_back p number index h all a stands holds later = record { number = number; behind = later; head = h; arms = all; stands = stands; index = index; arm = a; holds = holds; leads = refl }

arms_sound : (arms : List Arm) (p : List Place) (number k : ℕ) (h : Head) (all : List Arm) (flags : List Bool) → slice_get p number ≡ Some (choice h all) → Later arms all k → AreSound p flags
    → AreSound p (flags_behind_arms number arms flags)
arms_sound [] p number k h all flags stands later sound = sound
arms_sound (a ∷ arms) p number k h all flags stands later sound =
    arms_sound arms p number (k + 1) h all (one_marked number a flags) stands (later_tail a arms all k later)
    (one_sound p number a flags (leads_back p number k h all a stands (later_head a arms all k later)) sound)

same_later : {X : Type 0} → (xs : List X) → Later xs xs 0
same_later xs i x e = subst (λ j. slice_get xs j ≡ Some x) (omega arith) e

place_sound : (x : Place) (p : List Place) (n : ℕ) (flags : List Bool) → slice_get p n ≡ Some x → AreSound p flags → AreSound p (marked_place n x flags)
place_sound place.End p n flags h sound = sound
place_sound (place.Point x) p n flags h sound = arms_sound x.arms p n 0 x.head x.arms flags h (same_later x.arms) sound

all_sound : (places p : List Place) (n : ℕ) (flags : List Bool) → Later places p n → AreSound p flags → AreSound p (flags_behind_places n places flags)
all_sound [] p n flags later sound = sound
all_sound (x ∷ places) p n flags later sound =
    all_sound places p (n + 1) (marked_place n x flags) (later_tail x places p n later) (place_sound x p n flags (later_head x places p n later) sound)

-- ---- what is gone back to is marked

one_length : (number : ℕ) (a : Arm) (flags : List Bool) → length (one_marked number a flags) ≡ length flags
one_length number a flags = elim (tells number a flags) [ inl e ↦ rw e.sets (length-set flags a.next true) | inr e ↦ rw e.0 refl ]

one_keeps : (number : ℕ) (a : Arm) (flags : List Bool) (n : ℕ) → get_or flags n false ≡ true → get_or (one_marked number a flags) n false ≡ true
one_keeps number a flags n h = elim (tells number a flags) [ inl e ↦ rw e.sets (set_keeps flags a.next n e.within h) | inr e ↦ rw e.0 h ]

one_marks : (number : ℕ) (a : Arm) (flags : List Bool) → a.next ≤ number → a.next < length flags → get_or (one_marked number a flags) a.next false ≡ true
one_marks number a flags later within = elim (tells number a flags) [ inl e ↦ rw e.sets (get_or-set_same flags a.next true false within) | inr e ↦ absurd (e.1 later within) ]

arms_length : (arms : List Arm) (number : ℕ) (flags : List Bool) → length (flags_behind_arms number arms flags) ≡ length flags
arms_length [] number flags = refl
arms_length (a ∷ arms) number flags = arms_length arms number (one_marked number a flags) ∙ one_length number a flags

arms_keep : (arms : List Arm) (number : ℕ) (flags : List Bool) (n : ℕ) → get_or flags n false ≡ true → get_or (flags_behind_arms number arms flags) n false ≡ true
arms_keep [] number flags n h = h
arms_keep (a ∷ arms) number flags n h = arms_keep arms number (one_marked number a flags) n (one_keeps number a flags n h)

arms_mark : (arms : List Arm) (index number : ℕ) (flags : List Bool) (a : Arm) → slice_get arms index ≡ Some a → a.next ≤ number → a.next < length flags
    → get_or (flags_behind_arms number arms flags) a.next false ≡ true
arms_mark [] index number flags a h later within = absurd (cc h)
arms_mark (b ∷ arms) zero number flags a h later within =
    arms_keep arms number (one_marked number b flags) a.next
    (subst (λ (x : Arm). get_or (one_marked number b flags) x.next false ≡ true) (some_is b a h) (one_marks number b flags (rw (some_is b a h) later) (rw (some_is b a h) within)))
arms_mark (b ∷ arms) (suc index) number flags a h later within = arms_mark arms index number (one_marked number b flags) a h later (rw (one_length number b flags) within)

place_length : (x : Place) (n : ℕ) (flags : List Bool) → length (marked_place n x flags) ≡ length flags
place_length place.End n flags = refl
place_length (place.Point x) n flags = arms_length x.arms n flags

place_keeps : (x : Place) (k : ℕ) (flags : List Bool) (n : ℕ) → get_or flags n false ≡ true → get_or (marked_place k x flags) n false ≡ true
place_keeps place.End k flags n h = h
place_keeps (place.Point x) k flags n h = arms_keep x.arms k flags n h

all_keep : (places : List Place) (k : ℕ) (flags : List Bool) (n : ℕ) → get_or flags n false ≡ true → get_or (flags_behind_places k places flags) n false ≡ true
all_keep [] k flags n h = h
all_keep (x ∷ places) k flags n h = all_keep places (k + 1) (marked_place k x flags) n (place_keeps x k flags n h)

all_mark : (places : List Place) (i k : ℕ) (flags : List Bool) (h : Head) (arms : List Arm) (index : ℕ) (a : Arm) → slice_get places i ≡ Some (choice h arms) → slice_get arms index ≡ Some a
    → a.next ≤ k + i → a.next < length flags → get_or (flags_behind_places k places flags) a.next false ≡ true
all_mark [] i k flags h arms index a stands holds later within = absurd (cc stands)
all_mark (x ∷ places) zero k flags h arms index a stands holds later within =
    all_keep places (k + 1) (marked_place k x flags) a.next (rw (some_is x (choice h arms) stands) (arms_mark arms index k flags a holds (omega arith) within))
all_mark (x ∷ places) (suc i) k flags h arms index a stands holds later within =
    all_mark places i (k + 1) (marked_place k x flags) h arms index a stands holds (omega arith) (rw (place_length x k flags) within)

no_flags : (count n : ℕ) → get_or (replicate count false) n false ≡ true → ⊥
no_flags zero n h = cc
no_flags (suc count) zero h = cc
no_flags (suc count) (suc n) h = no_flags count n h

-- whether an arm of the place k or a later one leads to k
abbrev pub goes_back : List Place → ℕ → Bool
goes_back p k = get_or (back_flags p) k false

pub back_is : (p : List Place) (n : ℕ) → goes_back p n ≡ true → IsGoneBackTo p n
back_is p n h = all_sound p p 0 (replicate (length p) false) (same_later p) (λ n h. absurd (no_flags (length p) n h)) n h

pub is_back : (p : List Place) (n : ℕ) → IsGoneBackTo p n → goes_back p n ≡ true
is_back p n b =
    let inside : b.number < length p = slice_get_within p b.number (choice b.head b.arms) b.stands in
    let behind = b.behind in
    let leads = b.leads in
    let size : length (replicate (length p) false) ≡ length p = length-replicate (length p) false in
    subst (λ (m : ℕ). get_or (back_flags p) m false ≡ true) b.leads
    (all_mark p b.number 0 (replicate (length p) false) b.head b.arms b.index b.arm b.stands b.holds (omega arith) (omega arith))

pub flags_are_back : (p : List Place) (flags : List Bool) → flags ≡ back_flags p → AreBack p flags
flags_are_back p flags e n = rw e (back_is p n, is_back p n)

-- ---- place by place

marked_in : (places : List Place) (n k : ℕ) (flags : List Bool) → flags_behind_places (k + 1) (drop (suc n) places)
    (flags_behind_place k (slice_get places n) flags) ≡ flags_behind_places k (drop n places) flags
marked_in [] zero k flags = refl
marked_in [] (suc n) k flags = refl
marked_in (x ∷ places) zero k flags = refl
marked_in (x ∷ places) (suc n) k flags = marked_in places n k flags

pub marked_on : (places : List Place) (n : ℕ) (flags : List Bool) → flags_behind_places (n + 1) (drop (n + 1) places)
    (flags_behind_place n (slice_get places n) flags) ≡ flags_behind_places n (drop n places) flags
marked_on places n flags =
    let next : suc n ≡ n + 1 = omega arith in
    subst (λ j. flags_behind_places (n + 1) (drop j places) (flags_behind_place n (slice_get places n) flags) ≡ flags_behind_places n (drop n places) flags) next (marked_in places n n flags)
