-- A rec stands in front of each head of a body that is gone back to.
use Rattle.std.proofs.Common.{◌≡◌, ℕ, zero, suc, ◌+◌, ◌<◌, ◌≤◌, List, [], ◌∷◌, ◌++◌, length, drop, Bool, true, false, Some, refl, sym, ap, ◌∙◌, subst, arith, slice_get}
use Rattle.std.specs.Str.{bytes_eq}
use Rattle.std.proofs.lemmas.Bool.{eqb-true}
use Rattle.rs_model.specs.declared.graph.Arm.{Arm}
use Rattle.rs_text.specs.Names.{BoundNames, nearest_binding}
use Rattle.rs_text.proofs.Basics.{some_is, any_stands, drop_get}
use Rattle.rs_bodies.specs.declared.dialects.Dialect.{Dialect}
use Rattle.rs_bodies.specs.declared.places.Place.{Place}
use Rattle.rs_bodies.specs.declared.places.Place.TheVariants as place
use Rattle.rs_bodies.specs.Graph.{acts_in, acts_in_arms, Numbering, first_of, arm_spelt, arms_of}
use Rattle.rs_bodies.specs.Places.{choice, end_of, IsGoneBackTo}
use Rattle.rs_bodies.specs.Shapes.{leads_to, place_leads, leads_from}
use Rattle.rs_bodies.specs.Trees.{Body, ends, again, binds, acts, offers, Branches, one, more}
use Rattle.rs_bodies.proofs.Fitting.{good_behind, rec_at, recs_at, Recs, at_self, at_later, in_first, in_rest, recs_stand, NamesGood, same_name, lead_good, Named, NamedArms}
use Rattle.rs_bodies.proofs.BackFlags.{goes_back, back_is}
use Rattle.rs_bodies.proofs.NamesLead.{Low, low_rec, low_up}
use Rattle.rs_bodies.proofs.PlacesIn.{places_in, places_in_arms, places_length}

-- ---- an arm that goes back leads to such a head

abbrev BackGood : (ℕ → Bool) → ℕ → List Arm → Type 0
BackGood good n arms = (index : ℕ) (arm : Arm) → slice_get arms index ≡ Some arm → arm.next ≤ n → good arm.next ≡ true

abbrev PlaceGood : (ℕ → Bool) → ℕ → Place → Type 0
PlaceGood good n place.End = Unit {0}
PlaceGood good n (place.Point p) = BackGood good n p.arms

abbrev Backs : (ℕ → Bool) → ℕ → List Place → Type 0
Backs good n [] = Unit {0}
Backs good n (x ∷ places) = PlaceGood good n x × Backs good (suc n) places

backs_append : (good : ℕ → Bool) (xs ys : List Place) (n j : ℕ) → n + length xs ≡ j → Backs good n xs → Backs good j ys → Backs good n (xs ++ ys)
backs_append good [] ys n j e h k = let same : j ≡ n = omega arith in subst (λ (z : ℕ). Backs good z ys) same k
backs_append good (x ∷ xs) ys n j e h k = (h.0, backs_append good xs ys (suc n) j (omega arith) h.1 k)

backs_at : (good : ℕ → Bool) (places : List Place) (n i : ℕ) (x : Place) → Backs good n places → slice_get places i ≡ Some x → PlaceGood good (n + i) x
backs_at good [] n i x h e = absurd (cc e)
backs_at good (y ∷ places) n zero x h e =
    let same : n ≡ n + 0 = omega arith in
    subst (λ (z : ℕ). PlaceGood good z x) same (subst (λ (z : Place). PlaceGood good n z) (some_is y x e) h.0)
backs_at good (y ∷ places) n (suc i) x h e =
    let same : suc n + i ≡ n + suc i = omega arith in
    subst (λ (z : ℕ). PlaceGood good z x) same (backs_at good places (suc n) i x h.1 e)

one_good : (good : ℕ → Bool) (n : ℕ) (a : Arm) → (a.next ≤ n → good a.next ≡ true) → BackGood good n (a ∷ [])
one_good good n a f zero arm e le = let same : a ≡ arm = some_is a arm e in subst (λ (z : Arm). good z.next ≡ true) same (f (subst (λ (z : Arm). z.next ≤ n) (sym same) le))
one_good good n a f (suc index) arm e le = absurd (cc e)

more_good : (good : ℕ → Bool) (n : ℕ) (a : Arm) (arms : List Arm) → (a.next ≤ n → good a.next ≡ true) → BackGood good n arms → BackGood good n (a ∷ arms)
more_good good n a arms f g zero arm e le = let same : a ≡ arm = some_is a arm e in subst (λ (z : Arm). good z.next ≡ true) same (f (subst (λ (z : Arm). z.next ≤ n) (sym same) le))
more_good good n a arms f g (suc index) arm e le = g index arm e le

mutual
  backs : (dia : Dialect) (m : Numbering) (good : ℕ → Bool) (t : Body dia) (bound : BoundNames) (here : Bool) (k : ℕ) → k + acts_in dia t ≤ m.last → Named dia t bound k → Low bound k
      → ((v : ℕ) → k ≤ v → v < k + acts_in dia t → rec_at dia t here k v ≡ true → good v ≡ true)
      → ((x : List ℕ) (v : ℕ) → nearest_binding x bound ≡ Some v → v < k → good v ≡ true) → ((x : List ℕ) (v : ℕ) → nearest_binding x bound ≡ Some v → v ≡ k → here ≡ true)
      → Backs good k (places_in m t bound k)
  backs dia m good ends bound here k end named low f before at = tt
  backs dia m good (again x) bound here k end named low f before at = tt
  backs dia m good (binds x b) bound here k end named low f before at =
      backs dia m good b ((x, k) ∷ bound) true k end named (low_rec bound k x low) f
      (λ y v e lt. same_name (bytes_eq x y) k v (nearest_binding y bound) e (λ same. absurd (omega arith)) (λ g. before y v g lt)) (λ y v e same. refl)
  backs dia m good (acts s r l sort b) bound here k end named low f before at =
      let names : NamesGood good bound k = good_behind good bound here k before at (λ h. f k (omega arith) (omega arith) (at_self k here (rec_at dia b false (suc k) k) ∙ h)) in (
        one_good good k (arm_spelt m l sort (first_of dia b bound (suc k) m.last)) (lead_good dia good b bound k (suc k) m.last named names (omega arith) (omega arith)),
        backs dia m good b bound false (suc k) (omega arith) named (low_up bound k (suc k) (omega arith) low)
            (λ v le lt h. f v (omega arith) (omega arith) (at_later v k here (rec_at dia b false (suc k) v) (omega arith) ∙ h))
            (λ x v e lt. names x v e (omega arith)) (λ x v e same. let lt : v < k + 1 = low x v e in absurd (omega arith)),
      )
  backs dia m good (offers s r arms) bound here k end named low f before at =
      let names : NamesGood good bound k = good_behind good bound here k before at (λ h. f k (omega arith) (omega arith) (at_self k here (recs_at dia arms (suc k) k) ∙ h)) in (
        arms_good dia m good arms bound k (suc k) (omega arith) (omega arith) named names,
        backs_arms dia m good arms bound k (suc k) (omega arith) (omega arith) named low
            (λ v le lt h. f v (omega arith) (omega arith) (at_later v k here (recs_at dia arms (suc k) v) (omega arith) ∙ h)) names,
      )

  arms_good : (dia : Dialect) (m : Numbering) (good : ℕ → Bool) (arms : Branches dia) (bound : BoundNames) (n j : ℕ) → n < j → j + acts_in_arms dia arms ≤ m.last → NamedArms dia arms bound j
      → NamesGood good bound n → BackGood good n (arms_of dia m arms bound j)
  arms_good dia m good (one l sort b) bound n j lt end named names =
      one_good good n (arm_spelt m l sort (first_of dia b bound j m.last)) (lead_good dia good b bound n j m.last named names lt (omega arith))
  arms_good dia m good (more l sort b arms) bound n j lt end named names =
      more_good good n (arm_spelt m l sort (first_of dia b bound j m.last)) (arms_of dia m arms bound (j + acts_in dia b)) (lead_good dia good b bound n j m.last named.0 names lt (omega arith))
      (arms_good dia m good arms bound n (j + acts_in dia b) (omega arith) (omega arith) named.1 names)

  backs_arms : (dia : Dialect) (m : Numbering) (good : ℕ → Bool) (arms : Branches dia) (bound : BoundNames) (n j : ℕ) → n < j → j + acts_in_arms dia arms ≤ m.last → NamedArms dia arms bound j
      → Low bound n
      → ((v : ℕ) → j ≤ v → v < j + acts_in_arms dia arms → recs_at dia arms j v ≡ true → good v ≡ true) → NamesGood good bound n
      → Backs good j (places_in_arms m arms bound j)
  backs_arms dia m good (one l sort b) bound n j lt end named low f names =
      backs dia m good b bound false j end named (low_up bound n j (omega arith) low) f (λ x v e i. let le : v < n + 1 = low x v e in names x v e (omega arith))
      (λ x v e same. let le : v < n + 1 = low x v e in absurd (omega arith))
  backs_arms dia m good (more l sort b arms) bound n j lt end named low f names =
      backs_append good (places_in m b bound j) (places_in_arms m arms bound (j + acts_in dia b)) j (j + acts_in dia b) (ap (λ z. j + z) (places_length m b bound j))
      (backs dia m good b bound false j (omega arith) named.0 (low_up bound n j (omega arith) low)
      (λ v le i h. f v le (omega arith) (in_first v (j + acts_in dia b) (rec_at dia b false j v) (recs_at dia arms (j + acts_in dia b) v) i ∙ h))
      (λ x v e i. let le : v < n + 1 = low x v e in names x v e (omega arith)) (λ x v e same. let le : v < n + 1 = low x v e in absurd (omega arith)))
      (backs_arms dia m good arms bound n (j + acts_in dia b) (omega arith) (omega arith) named.1 low
      (λ v le i h. f v (omega arith) (omega arith) (in_rest v (j + acts_in dia b) (rec_at dia b false j v) (recs_at dia arms (j + acts_in dia b) v) le ∙ h)) names)

end_backs : (good : ℕ → Bool) (n : ℕ) (c : Bool) → Backs good n (end_of c)
end_backs good n true = (tt, tt)
end_backs good n false = tt

led_good : (good : ℕ → Bool) (n v : ℕ) (x : Place) → v ≤ n → place_leads v x ≡ true → PlaceGood good n x → good v ≡ true
led_good good n v place.End le h k = absurd (cc h)
led_good good n v (place.Point p) le h k =
    let f = any_stands Arm (leads_to v) p.arms h in
    let same : f.1.next ≡ v = eqb-true f.1.next v f.3 in
    subst (λ (z : ℕ). good z ≡ true) same (k f.0 f.1 f.2 (subst (λ (z : ℕ). z ≤ n) (sym same) le))

-- the places of a body, and its end
all_back : (dia : Dialect) (m : Numbering) (t : Body dia) (c : Bool) → m.last ≡ acts_in dia t → Named dia t [] 0 → Backs (rec_at dia t false 0) 0 (places_in m t [] 0 ++ end_of c)
all_back dia m t c last named =
    let good : ℕ → Bool = rec_at dia t false 0 in
    backs_append good (places_in m t [] 0) (end_of c) 0 (0 + length (places_in m t [] 0)) refl
    (backs dia m good t [] false 0 (omega arith) named (λ x v h. absurd (cc h)) (λ v le lt h. h) (λ x v h lt. absurd (cc h)) (λ x v h same. absurd (cc h)))
    (end_backs good (0 + length (places_in m t [] 0)) c)

-- a rec stands in front of each head of the body that is gone back to among its places
pub body_recs : (dia : Dialect) (m : Numbering) (places : List Place) (t : Body dia) (c : Bool) → places ≡ places_in m t [] 0 ++ end_of c → m.last ≡ acts_in dia t → Named dia t [] 0
    → Recs dia (λ v. leads_from places v v) t false 0
body_recs dia m places t c e last named =
    let good : ℕ → Bool = rec_at dia t false 0 in
    let all : Backs good 0 (places_in m t [] 0 ++ end_of c) = all_back dia m t c last named in
    recs_stand dia (λ v. leads_from places v v) t false 0 (λ v h le lt.
    let f = any_stands Place (place_leads v) (drop v places) h in
    let there : slice_get places (v + f.0) ≡ Some f.1 = sym (drop_get Place v places f.0) ∙ f.2 in
    led_good good (0 + (v + f.0)) v f.1 (omega arith) f.3 (backs_at good (places_in m t [] 0 ++ end_of c) 0 (v + f.0) f.1 all (ap (λ z. slice_get z (v + f.0)) (sym e) ∙ there)))

-- a rec stands in front of each head that is gone back to, by the flags of its places
pub tree_recs : {dia : Dialect} (m : Numbering) (p : List Place) (t : Body dia) (c : Bool) → p ≡ places_in m t [] 0 ++ end_of c → m.last ≡ acts_in dia t → Named dia t [] 0
    → Recs dia (goes_back p) t false 0
tree_recs {dia} m p t c e last named =
    let good : ℕ → Bool = rec_at dia t false 0 in
    let all : Backs good 0 (places_in m t [] 0 ++ end_of c) = all_back dia m t c last named in
    recs_stand dia (goes_back p) t false 0 (λ v h le lt.
    let b : IsGoneBackTo p v = back_is p v h in
    let here : BackGood good (0 + b.number) b.arms = backs_at good (places_in m t [] 0 ++ end_of c) 0 b.number (choice b.head b.arms) all (ap (λ z. slice_get z b.number) (sym e) ∙ b.stands) in
    let to : b.arm.next ≡ v = b.leads in
    let behind : v ≤ b.number = b.behind in
    subst (λ (z : ℕ). good z ≡ true) to (here b.index b.arm b.holds (omega arith)))
