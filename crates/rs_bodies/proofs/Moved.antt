-- A canonical body is that of the graph with other numbers for labels too, by names that have the labels at those numbers.
use Rattle.std.proofs.Common.{◌≡◌, ℕ, ◌+◌, List, [], ◌∷◌, ◌++◌, length, map, Bool, true, false, get_or, replicate, Option, Some, option_map, refl, sym, ap, ◌∙◌, subst, slice_get}
use Rattle.std.proofs.lemmas.List.{length-map}
use Rattle.std.proofs.lemmas.List.Folds.{list_any-append}
use Rattle.std.proofs.lemmas.Option.{slice_get-map}
use Rattle.std.specs.Str.{bytes_eq}
use Rattle.rs_model.specs.Data.{Names_data}
use Rattle.rs_model.specs.declared.graph.Arm.{Arm}
use Rattle.rs_model.specs.declared.values.Sort.{Sort}
use Rattle.rs_text.proofs.Basics.{or_first, or_end}
use Rattle.rs_text.proofs.Naming.{bytes_same}
use Rattle.rs_text.specs.Names.{is_among}
use Rattle.rs_bodies.specs.declared.dialects.Dialect.{Dialect}
use Rattle.rs_bodies.specs.declared.dialects.Dialect.TheVariants.{Talks, Acts}
use Rattle.rs_bodies.specs.declared.dialects.Head.{Head}
use Rattle.rs_bodies.specs.declared.dialects.Head.TheVariants as head
use Rattle.rs_bodies.specs.declared.places.Place.{Place}
use Rattle.rs_bodies.specs.declared.places.Place.TheVariants as place
use Rattle.rs_bodies.specs.Canonical.{IsHeadOf, IsPointOf, IsOneArm, AreArms, Draws, DrawsHead, DrawsArms}
use Rattle.rs_bodies.specs.Dialects.{BehindRole, sends_to, with_mark}
use Rattle.rs_bodies.specs.Graph.{labels_of, labels_of_arms}
use Rattle.rs_bodies.specs.Places.{choice, IsGoneBackTo}
use Rattle.rs_bodies.specs.Printing.{flags_behind_arms, marked_place, flags_behind_places}
use Rattle.rs_bodies.specs.Trees.{Body, ends, again, binds, acts, offers, Branches, one, more}
use Rattle.rs_bodies.proofs.BackFlags.{goes_back, back_is, is_back}

-- ---- labels among others

pub head_among : (l : List ℕ) (ls : List (List ℕ)) → is_among l (l ∷ ls) ≡ true
head_among l ls = or_first (bytes_eq l l) (is_among l ls) (bytes_same l)

pub tail_among : (x l : List ℕ) (ls : List (List ℕ)) → is_among x ls ≡ true → is_among x (l ∷ ls) ≡ true
tail_among x l ls h = or_end (bytes_eq l x) (is_among x ls) h

pub front_among : (x : List ℕ) (xs ys : List (List ℕ)) → is_among x xs ≡ true → is_among x (xs ++ ys) ≡ true
front_among x xs ys h = list_any-append (λ z. bytes_eq z x) xs ys ∙ or_first (is_among x xs) (is_among x ys) h

pub back_among : (x : List ℕ) (xs ys : List (List ℕ)) → is_among x ys ≡ true → is_among x (xs ++ ys) ≡ true
back_among x xs ys h = list_any-append (λ z. bytes_eq z x) xs ys ∙ or_end (is_among x xs) (is_among x ys) h

-- ---- other numbers for labels

abbrev pub arm_moved : (ℕ → ℕ) → Arm → Arm
arm_moved number a = record { label = record { 0 = number a.label.0 }; sort = a.sort; next = a.next }

abbrev pub place_moved : (ℕ → ℕ) → Place → Place
place_moved number place.End = place.End
place_moved number (place.Point x) = choice x.head (map (arm_moved number) x.arms)

abbrev pub places_moved : (ℕ → ℕ) → List Place → List Place
places_moved number p = map (place_moved number) p

abbrev pub same_number : ℕ → ℕ
same_number n = n

arms_stay : (arms : List Arm) → map (arm_moved same_number) arms ≡ arms
arms_stay [] = refl
arms_stay (a ∷ arms) = ap (λ z. a ∷ z) (arms_stay arms)

place_stays : (x : Place) → place_moved same_number x ≡ x
place_stays place.End = refl
place_stays (place.Point x) = ap (λ z. choice x.head z) (arms_stay x.arms)

pub places_stay : (p : List Place) → places_moved same_number p ≡ p
places_stay [] = refl
places_stay (x ∷ p) = ap (λ z. z ∷ places_moved same_number p) (place_stays x) ∙ ap (λ z. x ∷ z) (places_stay p)

-- ---- the same places are gone back to

arms_marked : (arms : List Arm) (number : ℕ → ℕ) (n : ℕ) (flags : List Bool) → flags_behind_arms n (map (arm_moved number) arms) flags ≡ flags_behind_arms n arms flags
arms_marked [] number n flags = refl
arms_marked (a ∷ arms) number n flags = arms_marked arms number n (flags_behind_arms n (a ∷ []) flags)

place_marked : (x : Place) (number : ℕ → ℕ) (n : ℕ) (flags : List Bool) → marked_place n (place_moved number x) flags ≡ marked_place n x flags
place_marked place.End number n flags = refl
place_marked (place.Point x) number n flags = arms_marked x.arms number n flags

all_marked : (p : List Place) (number : ℕ → ℕ) (n : ℕ) (flags : List Bool) → flags_behind_places n (places_moved number p) flags ≡ flags_behind_places n p flags
all_marked [] number n flags = refl
all_marked (x ∷ p) number n flags = all_marked p number (n + 1) (marked_place n (place_moved number x) flags) ∙ ap (λ z. flags_behind_places (n + 1) p z) (place_marked x number n flags)

back_as_before : (p : List Place) (number : ℕ → ℕ) (n : ℕ) → goes_back (places_moved number p) n ≡ goes_back p n
back_as_before p number n =
    ap (λ z. get_or z n false) (ap (λ z. flags_behind_places 0 (places_moved number p) (replicate z false)) (length-map p (place_moved number)) ∙ all_marked p number 0 (replicate (length p) false))

back_again : (p : List Place) (number : ℕ → ℕ) (n : ℕ) → IsGoneBackTo p n → IsGoneBackTo (places_moved number p) n
back_again p number n g = back_is (places_moved number p) n (back_as_before p number n ∙ is_back p n g)

back_before : (p : List Place) (number : ℕ → ℕ) (n : ℕ) → IsGoneBackTo (places_moved number p) n → IsGoneBackTo p n
back_before p number n g = back_is p n (sym (back_as_before p number n) ∙ is_back (places_moved number p) n g)

place_at : (p : List Place) (number : ℕ → ℕ) (n : ℕ) (x : Place) → slice_get p n ≡ Some x → slice_get (places_moved number p) n ≡ Some (place_moved number x)
place_at p number n x e = slice_get-map (place_moved number) p n ∙ ap (option_map (place_moved number)) e

-- ---- and it is drawn as it was

abbrev pub with_others : Names_data → List (List ℕ) → Names_data
with_others names others = record { roles = names.roles; labels = others }

-- each of the labels stands among the others where its number says
abbrev pub Moves : (ℕ → ℕ) → (these those labels : List (List ℕ)) → Type 0
Moves number these those labels = (l : List ℕ) (i : ℕ) → is_among l labels ≡ true → slice_get these i ≡ Some l → slice_get those (number i) ≡ Some l

head_again : (dia : Dialect) (names : Names_data) (others : List (List ℕ)) (h : Head) (s : List ℕ) (t : BehindRole dia) → IsHeadOf dia names h s t → IsHeadOf dia (with_others names others) h s t
head_again Talks names others (head.Talk a b) s (sends_to r) x = x
head_again Talks names others (head.Act a m) s t x = absurd x
head_again Acts names others (head.Talk a b) s t x = absurd x
head_again Acts names others (head.Act a m) s (with_mark w) x = x

point_again : {dia : Dialect} (names : Names_data) (others : List (List ℕ)) (number : ℕ → ℕ) (p : List Place) (n : ℕ) (s : List ℕ) (t : BehindRole dia) (arms : List Arm)
    → IsPointOf dia names p n s t arms
    → IsPointOf dia (with_others names others) (places_moved number p) n s t (map (arm_moved number) arms)
point_again {dia} names others number p n s t arms a = record { head = a.head; stands = place_at p number n (choice a.head arms) a.stands; named = head_again dia names others a.head s t a.named }

one_again : {dia : Dialect} (names : Names_data) (others : List (List ℕ)) (number : ℕ → ℕ) (p : List Place) (n : ℕ) (s : List ℕ) (t : BehindRole dia) (l : List ℕ) (sort : Option Sort) (b : Body dia)
    → Moves number names.labels others (l ∷ labels_of dia b)
    → ((next : ℕ) → Draws dia names p (n + 1) next b → Draws dia (with_others names others) (places_moved number p) (n + 1) next b)
    → IsOneArm dia names p n s t l sort (λ next. Draws dia names p (n + 1) next b)
    → IsOneArm dia (with_others names others) (places_moved number p) n s t l sort (λ next. Draws dia (with_others names others) (places_moved number p) (n + 1) next b)
one_again {dia} names others number p n s t l sort b f go x =
    (arm_moved number x.0, point_again names others number p n s t (x.0 ∷ []) x.1, (f l x.0.label.0 (head_among l (labels_of dia b)) x.2.0, x.2.1), go x.0.next x.3)

more_again : {dia : Dialect} (names : Names_data) (others : List (List ℕ)) (number : ℕ → ℕ) (p : List Place) (n : ℕ) (s : List ℕ) (t : BehindRole dia) (arms : Branches dia)
    → ((ours : List Arm) → DrawsArms dia names p (n + 1) ours arms → DrawsArms dia (with_others names others) (places_moved number p) (n + 1) (map (arm_moved number) ours) arms)
    → AreArms dia names p n s t (λ ours. DrawsArms dia names p (n + 1) ours arms)
    → AreArms dia (with_others names others) (places_moved number p) n s t (λ ours. DrawsArms dia (with_others names others) (places_moved number p) (n + 1) ours arms)
more_again names others number p n s t arms go x =
    (arm_moved number x.0, arm_moved number x.1, map (arm_moved number) x.2, point_again names others number p n s t (x.0 ∷ x.1 ∷ x.2) x.3, go (x.0 ∷ x.1 ∷ x.2) x.4)

mutual
  pub draws_moved : {dia : Dialect} (b : Body dia) (names : Names_data) (others : List (List ℕ)) (number : ℕ → ℕ) (p : List Place) (from n : ℕ) → Moves number names.labels others (labels_of dia b)
      → Draws dia names p from n b → Draws dia (with_others names others) (places_moved number p) from n b
  draws_moved ends names others number p from n f h = place_at p number n place.End h
  draws_moved (again x) names others number p from n f h = h
  draws_moved (binds x b) names others number p from n f h = (h.0, h.1, back_again p number n h.2, head_draws_moved b names others number p n f h.3)
  draws_moved {dia} (acts s t l sort b) names others number p from n f h = (
    h.0,
    (λ g. h.1 (back_before p number n g)),
    one_again names others number p n s t l sort b f
        (λ next d. draws_moved b names others number p (n + 1) next (λ y i a. f y i (tail_among y l (labels_of dia b) a)) d) h.2,
  )
  draws_moved (offers s t arms) names others number p from n f h =
      (h.0, (λ g. h.1 (back_before p number n g)), more_again names others number p n s t arms (λ ours d. arms_draw_moved arms ours names others number p (n + 1) f d) h.2)

  head_draws_moved : {dia : Dialect} (b : Body dia) (names : Names_data) (others : List (List ℕ)) (number : ℕ → ℕ) (p : List Place) (n : ℕ) → Moves number names.labels others (labels_of dia b)
      → DrawsHead dia names p n b → DrawsHead dia (with_others names others) (places_moved number p) n b
  head_draws_moved ends names others number p n f h = h
  head_draws_moved (again x) names others number p n f h = h
  head_draws_moved (binds x b) names others number p n f h = h
  head_draws_moved {dia} (acts s t l sort b) names others number p n f h =
      one_again names others number p n s t l sort b f (λ next d. draws_moved b names others number p (n + 1) next (λ y i a. f y i (tail_among y l (labels_of dia b) a)) d) h
  head_draws_moved (offers s t arms) names others number p n f h = more_again names others number p n s t arms (λ ours d. arms_draw_moved arms ours names others number p (n + 1) f d) h

  arms_draw_moved : {dia : Dialect} (arms : Branches dia) (ours : List Arm) (names : Names_data) (others : List (List ℕ)) (number : ℕ → ℕ) (p : List Place) (from : ℕ)
      → Moves number names.labels others (labels_of_arms dia arms) → DrawsArms dia names p from ours arms
      → DrawsArms dia (with_others names others) (places_moved number p) from (map (arm_moved number) ours) arms
  arms_draw_moved arms [] names others number p from f h = absurd h
  arms_draw_moved {dia} (one l sort b) (o ∷ []) names others number p from f h =
      ((f l o.label.0 (head_among l (labels_of dia b)) h.0.0, h.0.1), draws_moved b names others number p from o.next (λ y i a. f y i (tail_among y l (labels_of dia b) a)) h.1)
  arms_draw_moved (one l sort b) (o ∷ c ∷ cs) names others number p from f h = absurd h
  arms_draw_moved (more l sort b arms) (o ∷ []) names others number p from f h = absurd h.2
  arms_draw_moved {dia} (more l sort b arms) (o ∷ c ∷ cs) names others number p from f h = (
    (f l o.label.0 (head_among l (labels_of dia b ++ labels_of_arms dia arms)) h.0.0, h.0.1),
    draws_moved b names others number p from o.next (λ y i a. f y i (tail_among y l (labels_of dia b ++ labels_of_arms dia arms) (front_among y (labels_of dia b) (labels_of_arms dia arms) a))) h.1,
    arms_draw_moved arms (c ∷ cs) names others number p from
        (λ y i a. f y i (tail_among y l (labels_of dia b ++ labels_of_arms dia arms) (back_among y (labels_of dia b) (labels_of_arms dia arms) a))) h.2,
  )

-- the body that is drawn stays as it is with names that have the same numbers
pub draws_stays : {dia : Dialect} (b : Body dia) (names : Names_data) (others : List (List ℕ)) (p : List Place) (from n : ℕ) → Moves same_number names.labels others (labels_of dia b)
    → Draws dia names p from n b → Draws dia (with_others names others) p from n b
draws_stays {dia} b names others p from n f h = subst (λ (z : List Place). Draws dia (with_others names others) z from n b) (places_stay p) (draws_moved b names others same_number p from n f h)
