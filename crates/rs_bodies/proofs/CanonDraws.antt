-- The canonical form of a body is the canonical body of its graph, and its names are there.
use Rattle.std.proofs.Common.{◌≡◌, ℕ, suc, ◌+◌, ◌<◌, ◌≤◌, List, [], ◌∷◌, ◌++◌, length, Bool, true, false, Option, Some, None, refl, sym, ap, ◌∙◌, subst, arith, slice_get, append_assoc, length-append}
use Rattle.std.proofs.lemmas.Bool.{ltb-true}
use Rattle.rs_model.specs.Data.{Names_data}
use Rattle.rs_model.specs.declared.graph.Arm.{Arm}
use Rattle.rs_model.specs.declared.values.Sort.{Sort}
use Rattle.rs_text.specs.Names.{BoundNames, nearest_binding, number_or}
use Rattle.rs_text.proofs.Basics.{or_end}
use Rattle.rs_bodies.specs.declared.dialects.Dialect.{Dialect}
use Rattle.rs_bodies.specs.declared.dialects.Dialect.TheVariants.{Talks, Acts}
use Rattle.rs_bodies.specs.declared.places.Place.{Place}
use Rattle.rs_bodies.specs.declared.places.Place.TheVariants as place
use Rattle.rs_bodies.specs.Canonical.{IsHeadOf, IsPointOf, IsArmOf, IsOneArm, AreArms, Draws, DrawsArms, HeadHasNames, HaveNames}
use Rattle.rs_bodies.specs.Dialects.{BehindRole, sends_to, with_mark}
use Rattle.rs_bodies.specs.Fits.{is_guarded}
use Rattle.rs_bodies.specs.Graph.{acts_in, has_end, has_end_arms, first_of, arm_spelt, arms_of}
use Rattle.rs_bodies.specs.Places.{name_of_place}
use Rattle.rs_bodies.specs.Points.{head_of}
use Rattle.rs_bodies.specs.Trees.{Body, ends, again, binds, acts, offers, Branches, one, more}
use Rattle.rs_bodies.proofs.BackFlags.{goes_back, back_is, is_back}
use Rattle.rs_bodies.proofs.CanonForms.{Writing, role_as, label_as, turn_as, sort_as, canon, canon_arms, HasRole, HasLabel, HasTurn, HasNames, HasNamesArms, role_stands, label_stands}
use Rattle.rs_bodies.proofs.Fitting.{Named, NamedArms}
use Rattle.rs_bodies.proofs.NamesLead.{Low, low_rec, low_up, Ins, ins_rec}
use Rattle.rs_bodies.proofs.Wrapped.{wrapped}
use Rattle.rs_bodies.proofs.PlacesIn.{point_at, places_in, places_in_arms, places_length, one_longer, at_seam}

-- ---- one place

-- a head by its names
head_stands : (dia : Dialect) (w : Writing) (s : List ℕ) (r : BehindRole dia) → HeadHasNames w.names (head_of dia w.numbers s r)
    → IsHeadOf dia w.names (head_of dia w.numbers s r) (role_as w s) (turn_as w r)
head_stands Talks w s (sends_to r) h = (role_stands w s h.0, role_stands w r h.1)
head_stands Acts w s (with_mark m) h = (role_stands w s h, refl)

head_has : (dia : Dialect) (w : Writing) (s : List ℕ) (r : BehindRole dia) → HeadHasNames w.names (head_of dia w.numbers s r) → HasRole w s × HasTurn w r
head_has Talks w s (sends_to r) h = (h.0, h.1)
head_has Acts w s (with_mark m) h = (h, tt)

name_draws : (w : Writing) (p : List Place) (from k : ℕ) (found : Option ℕ) (x : List ℕ) (bound : BoundNames) → nearest_binding x bound ≡ found → is_guarded found k ≡ true → Ins bound from k
    → (number_or found < from) × (name_of_place (number_or found) ≡ name_of_place (number_or found))
name_draws w p from k None x bound e g ins = absurd (cc g)
name_draws w p from k (Some m) x bound e g ins = (ins x m e (ltb-true m k g), refl)

-- a head that is led to from before it
one_draws : {dia : Dialect} (names : Names_data) (p : List Place) (from k : ℕ) (s : List ℕ) (r : BehindRole dia) (l : List ℕ) (sort : Option Sort) (b : Body dia) (c : Bool) → goes_back p k ≡ c
    → from ≤ k
    → IsOneArm dia names p k s r l sort (λ next. Draws dia names p (k + 1) next b)
    → Draws dia names p from k (wrapped c k (acts s r l sort b))
one_draws {dia} names p from k s r l sort b true e le h = (le, refl, back_is p k e, h)
one_draws {dia} names p from k s r l sort b false e le h = (le, (λ back. absurd (cc (is_back p k back, e))), h)

more_draws : {dia : Dialect} (names : Names_data) (p : List Place) (from k : ℕ) (s : List ℕ) (r : BehindRole dia) (l : List ℕ) (sort : Option Sort) (b : Body dia) (arms : Branches dia) (c : Bool)
    → goes_back p k ≡ c → from ≤ k → AreArms dia names p k s r (λ ours. DrawsArms dia names p (k + 1) ours (more l sort b arms))
    → Draws dia names p from k (wrapped c k (offers s r (more l sort b arms)))
more_draws {dia} names p from k s r l sort b arms true e le h = (le, refl, back_is p k e, h)
more_draws {dia} names p from k s r l sort b arms false e le h = (le, (λ back. absurd (cc (is_back p k back, e))), h)

put_arms : {dia : Dialect} (names : Names_data) (p : List Place) (from : ℕ) (a : Arm) (as' : List Arm) (l : List ℕ) (sort : Option Sort) (b : Body dia) (arms : Branches dia) → IsArmOf names l sort a
    → Draws dia names p from a.next b → DrawsArms dia names p from as' arms → DrawsArms dia names p from (a ∷ as') (more l sort b arms)
put_arms {dia} names p from a [] l sort b arms x y z = (x, y, z)
put_arms {dia} names p from a (c ∷ cs) l sort b arms x y z = (x, y, z)

-- the arms of a head
abbrev FewLabels : Names_data → List Arm → Type 0
FewLabels names arms = (place : ℕ) (arm : Arm) → slice_get arms place ≡ Some arm → arm.label.0 < length names.labels

mutual
  pub draws : {dia : Dialect} (w : Writing) (p : List Place) (b : Body dia) (bound : BoundNames) (from k : ℕ) (pre post : List Place) → w.places ≡ p → HaveNames w.names p
      → p ≡ pre ++ (places_in w.numbers b bound k ++ post) → length pre ≡ k → from ≤ k
      → (has_end dia b ≡ true → slice_get p w.numbers.last ≡ Some place.End) → Named dia b bound k → Low bound k → Ins bound from k
      → Draws dia w.names p from (first_of dia b bound k w.numbers.last) (canon w b bound k)
  draws {dia} w p ends bound from k pre post n enough e h le end named low ins = end refl
  draws {dia} w p (again x) bound from k pre post n enough e h le end named low ins = name_draws w p from k (nearest_binding x bound) x bound refl named ins
  draws {dia} w p (binds x b) bound from k pre post n enough e h le end named low ins =
      draws w p b ((x, k) ∷ bound) from k pre post n enough e h le end named (low_rec bound k x low) (ins_rec bound from k x ins)
  draws {dia} w p (acts s r l sort b) bound from k pre post n enough e h le end named low ins =
      let a : Arm = arm_spelt w.numbers l sort (first_of dia b bound (suc k) w.numbers.last) in
      let here : Place = point_at dia w.numbers s r (a ∷ []) in
      let there : slice_get p k ≡ Some here = at_seam p pre here (places_in w.numbers b bound (suc k) ++ post) k e h in
      let next : k + 1 ≡ suc k = omega arith in
      let inner : Draws dia w.names p (suc k) (first_of dia b bound (suc k) w.numbers.last) (canon w b bound (suc k)) =
      draws w p b bound (suc k) (suc k) (pre ++ here ∷ []) post n enough (e ∙ sym (append_assoc pre (here ∷ []) (places_in w.numbers b bound (suc k) ++ post))) (one_longer pre here k h)
      (omega arith) end named (low_up bound k (suc k) (omega arith) low) (λ x m e lt. lt) in
      one_draws w.names p from k (role_as w s) (turn_as w r) (label_as w l) (sort_as sort) (canon w b bound (suc k)) (goes_back w.places k) (ap (λ z. goes_back z k) (sym n)) le (
        a,
        record { head = head_of dia w.numbers s r; stands = there; named = head_stands dia w s r (enough.heads k (head_of dia w.numbers s r) (a ∷ []) there) },
        (label_stands w l (enough.labels k 0 (head_of dia w.numbers s r) (a ∷ []) a there refl), refl),
        subst (λ (z : ℕ). Draws dia w.names p z (first_of dia b bound (suc k) w.numbers.last) (canon w b bound (suc k))) (sym next) inner,
      )
  draws {dia} w p (offers s r (one l sort b)) bound from k pre post n enough e h le end named low ins =
      let a : Arm = arm_spelt w.numbers l sort (first_of dia b bound (suc k) w.numbers.last) in
      let here : Place = point_at dia w.numbers s r (a ∷ []) in
      let there : slice_get p k ≡ Some here = at_seam p pre here (places_in w.numbers b bound (suc k) ++ post) k e h in
      let next : k + 1 ≡ suc k = omega arith in
      let inner : Draws dia w.names p (suc k) (first_of dia b bound (suc k) w.numbers.last) (canon w b bound (suc k)) =
      draws w p b bound (suc k) (suc k) (pre ++ here ∷ []) post n enough (e ∙ sym (append_assoc pre (here ∷ []) (places_in w.numbers b bound (suc k) ++ post))) (one_longer pre here k h)
      (omega arith) end named (low_up bound k (suc k) (omega arith) low) (λ x m e lt. lt) in
      one_draws w.names p from k (role_as w s) (turn_as w r) (label_as w l) (sort_as sort) (canon w b bound (suc k)) (goes_back w.places k) (ap (λ z. goes_back z k) (sym n)) le (
        a,
        record { head = head_of dia w.numbers s r; stands = there; named = head_stands dia w s r (enough.heads k (head_of dia w.numbers s r) (a ∷ []) there) },
        (label_stands w l (enough.labels k 0 (head_of dia w.numbers s r) (a ∷ []) a there refl), refl),
        subst (λ (z : ℕ). Draws dia w.names p z (first_of dia b bound (suc k) w.numbers.last) (canon w b bound (suc k))) (sym next) inner,
      )
  draws {dia} w p (offers s r (more l sort b arms)) bound from k pre post n enough e h le end named low ins =
      let ours : List Arm = arms_of dia w.numbers (more l sort b arms) bound (suc k) in
      let here : Place = point_at dia w.numbers s r ours in
      let there : slice_get p k ≡ Some here = at_seam p pre here (places_in_arms w.numbers (more l sort b arms) bound (suc k) ++ post) k e h in
      let next : k + 1 ≡ suc k = omega arith in
      let inner : DrawsArms dia w.names p (suc k) ours (canon_arms w (more l sort b arms) bound (suc k)) =
      draws_arms w p (more l sort b arms) bound k (suc k) (pre ++ here ∷ []) post n enough
      (e ∙ sym (append_assoc pre (here ∷ []) (places_in_arms w.numbers (more l sort b arms) bound (suc k) ++ post))) (one_longer pre here k h) (omega arith)
      (λ place arm. enough.labels k place (head_of dia w.numbers s r) ours arm there) end named low in
      more_draws w.names p from k (role_as w s) (turn_as w r) (label_as w l) (sort_as sort) (canon w b bound (suc k)) (canon_arms w arms bound (suc k + acts_in dia b)) (goes_back w.places k)
      (ap (λ z. goes_back z k) (sym n)) le
      (two_arms w p arms (role_as w s) (turn_as w r) k (arm_spelt w.numbers l sort (first_of dia b bound (suc k) w.numbers.last)) bound (suc k + acts_in dia b)
      (more (label_as w l) (sort_as sort) (canon w b bound (suc k)) (canon_arms w arms bound (suc k + acts_in dia b)))
      (record { head = head_of dia w.numbers s r; stands = there; named = head_stands dia w s r (enough.heads k (head_of dia w.numbers s r) ours there) })
      (subst (λ (z : ℕ). DrawsArms dia w.names p z ours (canon_arms w (more l sort b arms) bound (suc k))) (sym next) inner))

  -- there are two arms at least
  two_arms : {dia : Dialect} (w : Writing) (p : List Place) (arms : Branches dia) (s : List ℕ) (r : BehindRole dia) (k : ℕ) (a : Arm) (bound : BoundNames) (j : ℕ) (all : Branches dia)
      → IsPointOf dia w.names p k s r (a ∷ arms_of dia w.numbers arms bound j) → DrawsArms dia w.names p (k + 1) (a ∷ arms_of dia w.numbers arms bound j) all
      → AreArms dia w.names p k s r (λ ours. DrawsArms dia w.names p (k + 1) ours all)
  two_arms {dia} w p (one l sort b) s r k a bound j all act each = (a, arm_spelt w.numbers l sort (first_of dia b bound j w.numbers.last), [], act, each)
  two_arms {dia} w p (more l sort b arms) s r k a bound j all act each =
      (a, arm_spelt w.numbers l sort (first_of dia b bound j w.numbers.last), arms_of dia w.numbers arms bound (j + acts_in dia b), act, each)

  draws_arms : {dia : Dialect} (w : Writing) (p : List Place) (arms : Branches dia) (bound : BoundNames) (number k : ℕ) (pre post : List Place) → w.places ≡ p → HaveNames w.names p
      → p ≡ pre ++ (places_in_arms w.numbers arms bound k ++ post) → length pre ≡ k → number < k
      → FewLabels w.names (arms_of dia w.numbers arms bound k) → (has_end_arms dia arms ≡ true → slice_get p w.numbers.last ≡ Some place.End) → NamedArms dia arms bound k → Low bound number
      → DrawsArms dia w.names p (suc number) (arms_of dia w.numbers arms bound k) (canon_arms w arms bound k)
  draws_arms {dia} w p (one l sort b) bound number k pre post n enough e h lt few end named low = (
    (label_stands w l (few 0 (arm_spelt w.numbers l sort (first_of dia b bound k w.numbers.last)) refl), refl),
    draws w p b bound (suc number) k pre post n enough e h (omega arith) end named (low_up bound number k (omega arith) low) (λ x m i j. let a : m < number + 1 = low x m i in omega arith),
  )
  draws_arms {dia} w p (more l sort b arms) bound number k pre post n enough e h lt few end named low =
      let j : ℕ = k + acts_in dia b in
      put_arms w.names p (suc number) (arm_spelt w.numbers l sort (first_of dia b bound k w.numbers.last)) (arms_of dia w.numbers arms bound j) (label_as w l) (sort_as sort) (canon w b bound k)
      (canon_arms w arms bound j)
      (label_stands w l (few 0 (arm_spelt w.numbers l sort (first_of dia b bound k w.numbers.last)) refl), refl)
      (draws w p b bound (suc number) k pre (places_in_arms w.numbers arms bound j ++ post) n enough
      (e ∙ ap (λ z. pre ++ z) (append_assoc (places_in w.numbers b bound k) (places_in_arms w.numbers arms bound j) post)) h (omega arith) (λ x. end (rw x refl)) named.0
      (low_up bound number k (omega arith) low) (λ x m i j. let a : m < number + 1 = low x m i in omega arith))
      (draws_arms w p arms bound number j (pre ++ places_in w.numbers b bound k) post n enough
      (e ∙ ap (λ z. pre ++ z) (append_assoc (places_in w.numbers b bound k) (places_in_arms w.numbers arms bound j) post)
      ∙ sym (append_assoc pre (places_in w.numbers b bound k) (places_in_arms w.numbers arms bound j ++ post)))
      (length-append pre (places_in w.numbers b bound k) ∙ ap (λ z. z + length (places_in w.numbers b bound k)) h ∙ ap (λ z. k + z) (places_length w.numbers b bound k)) (omega arith)
      (λ place arm i. few (suc place) arm i) (λ x. end (or_end (has_end dia b) (has_end_arms dia arms) x)) named.1 low)

-- ---- the names of a tree

mutual
  pub has_names : {dia : Dialect} (w : Writing) (p : List Place) (b : Body dia) (bound : BoundNames) (k : ℕ) (pre post : List Place) → HaveNames w.names p
      → p ≡ pre ++ (places_in w.numbers b bound k ++ post) → length pre ≡ k → HasNames w (HasLabel w) b
  has_names {dia} w p ends bound k pre post enough e h = tt
  has_names {dia} w p (again x) bound k pre post enough e h = tt
  has_names {dia} w p (binds x b) bound k pre post enough e h = has_names w p b ((x, k) ∷ bound) k pre post enough e h
  has_names {dia} w p (acts s r l sort b) bound k pre post enough e h =
      let a : Arm = arm_spelt w.numbers l sort (first_of dia b bound (suc k) w.numbers.last) in
      let here : Place = point_at dia w.numbers s r (a ∷ []) in
      let there : slice_get p k ≡ Some here = at_seam p pre here (places_in w.numbers b bound (suc k) ++ post) k e h in (
        head_has dia w s r (enough.heads k (head_of dia w.numbers s r) (a ∷ []) there),
        enough.labels k 0 (head_of dia w.numbers s r) (a ∷ []) a there refl,
        has_names w p b bound (suc k) (pre ++ here ∷ []) post enough (e ∙ sym (append_assoc pre (here ∷ []) (places_in w.numbers b bound (suc k) ++ post))) (one_longer pre here k h),
      )
  has_names {dia} w p (offers s r arms) bound k pre post enough e h =
      let ours : List Arm = arms_of dia w.numbers arms bound (suc k) in
      let here : Place = point_at dia w.numbers s r ours in
      let there : slice_get p k ≡ Some here = at_seam p pre here (places_in_arms w.numbers arms bound (suc k) ++ post) k e h in (
        head_has dia w s r (enough.heads k (head_of dia w.numbers s r) ours there),
        arms_have_names w p arms bound (suc k) (pre ++ here ∷ []) post enough (e ∙ sym (append_assoc pre (here ∷ []) (places_in_arms w.numbers arms bound (suc k) ++ post))) (one_longer pre here k h)
            (λ place arm. enough.labels k place (head_of dia w.numbers s r) ours arm there),
      )

  arms_have_names : {dia : Dialect} (w : Writing) (p : List Place) (arms : Branches dia) (bound : BoundNames) (k : ℕ) (pre post : List Place) → HaveNames w.names p
      → p ≡ pre ++ (places_in_arms w.numbers arms bound k ++ post) → length pre ≡ k → FewLabels w.names (arms_of dia w.numbers arms bound k) → HasNamesArms w (HasLabel w) arms
  arms_have_names {dia} w p (one l sort b) bound k pre post enough e h few =
      (few 0 (arm_spelt w.numbers l sort (first_of dia b bound k w.numbers.last)) refl, has_names w p b bound k pre post enough e h)
  arms_have_names {dia} w p (more l sort b arms) bound k pre post enough e h few =
      let j : ℕ = k + acts_in dia b in (
        few 0 (arm_spelt w.numbers l sort (first_of dia b bound k w.numbers.last)) refl,
        has_names w p b bound k pre (places_in_arms w.numbers arms bound j ++ post) enough
            (e ∙ ap (λ z. pre ++ z) (append_assoc (places_in w.numbers b bound k) (places_in_arms w.numbers arms bound j) post)) h,
        arms_have_names w p arms bound j (pre ++ places_in w.numbers b bound k) post enough
            (e ∙ ap (λ z. pre ++ z) (append_assoc (places_in w.numbers b bound k) (places_in_arms w.numbers arms bound j) post)
            ∙ sym (append_assoc pre (places_in w.numbers b bound k) (places_in_arms w.numbers arms bound j ++ post)))
            (length-append pre (places_in w.numbers b bound k) ∙ ap (λ z. z + length (places_in w.numbers b bound k)) h ∙ ap (λ z. k + z) (places_length w.numbers b bound k))
            (λ place arm i. few (suc place) arm i),
      )
