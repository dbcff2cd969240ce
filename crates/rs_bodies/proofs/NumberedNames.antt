-- The names of a tree are enough for its graph: each head and each arm of it has numbers of them.
use Rattle.std.proofs.Common.{◌≡◌, ℕ, suc, ◌+◌, ◌<◌, List, [], ◌∷◌, ◌++◌, length, Bool, true, false, ◌&&◌, Option, Some, None, nat_lt, if◌then◌else◌, refl, sym, ap, ◌∙◌, subst, inl, inr, slice_get}
use Rattle.std.proofs.lemmas.List.Folds.{list_all-append}
use Rattle.std.proofs.lemmas.Option.{slice_get_within}
use Rattle.std.specs.List.{list_all}
use Rattle.rs_model.specs.Data.{Names_data}
use Rattle.rs_model.specs.declared.graph.Arm.{Arm}
use Rattle.rs_text.proofs.Basics.{both, test_below, one_of, below_test, two_true}
use Rattle.rs_text.proofs.Gaps.{true_or_false}
use Rattle.rs_text.proofs.Naming.{grown_stays, place_of_new, place_stands, placed_by, absent_by}
use Rattle.rs_text.proofs.Numbers.{place_below}
use Rattle.rs_text.specs.Names.{BoundNames, names_with, is_among, place_of, number_or}
use Rattle.rs_bodies.specs.declared.dialects.Dialect.{Dialect}
use Rattle.rs_bodies.specs.declared.dialects.Dialect.TheVariants.{Talks, Acts}
use Rattle.rs_bodies.specs.declared.dialects.Head.{Head}
use Rattle.rs_bodies.specs.declared.dialects.Head.TheVariants as head
use Rattle.rs_bodies.specs.declared.places.Place.{Place}
use Rattle.rs_bodies.specs.declared.places.Place.TheVariants as place
use Rattle.rs_bodies.specs.Canonical.{IsSpelt, HeadHasNames, HaveNames}
use Rattle.rs_bodies.specs.Dialects.{BehindRole, sends_to, with_mark}
use Rattle.rs_bodies.specs.Graph.{Numbering, role_by_name, label_by_name, labels_of, labels_of_arms, arms_of, has_end, acts_in}
use Rattle.rs_bodies.specs.Places.{choice, end_of}
use Rattle.rs_bodies.specs.Points.{head_of}
use Rattle.rs_bodies.specs.Spells.{names_of, numbering}
use Rattle.rs_bodies.specs.Trees.{Body, ends, again, binds, acts, offers, Branches, one, more}
use Rattle.rs_bodies.proofs.CanonWhole.{spelt_tree}
use Rattle.rs_bodies.proofs.PlacesIn.{places_in, places_in_arms}

-- a label has a number below the count of the labels
abbrev is_numbered : Numbering → List ℕ → Bool
is_numbered m l = nat_lt (label_by_name m l).0 (length m.names.labels)

abbrev is_arm_numbered : Numbering → Arm → Bool
is_arm_numbered m a = nat_lt a.label.0 (length m.names.labels)

-- the roles of a head have numbers below the count of the roles
abbrev is_head_numbered : Numbering → Head → Bool
is_head_numbered m (head.Talk s r) = nat_lt s.0 (length m.names.roles) && nat_lt r.0 (length m.names.roles)
is_head_numbered m (head.Act p x) = nat_lt p.0 (length m.names.roles)

abbrev is_place_numbered : Numbering → Place → Bool
is_place_numbered m place.End = true
is_place_numbered m (place.Point x) = is_head_numbered m x.head && list_all (is_arm_numbered m) x.arms

-- ---- the places of a body

number_below : (name : List ℕ) (names : List (List ℕ)) (found : Option ℕ) → place_of name names ≡ found → 0 < length names → number_or found < length names
number_below name names None e some = some
number_below name names (Some k) e some = slice_get_within names k name (place_stands names name k e).present

role_numbered : (m : Numbering) (s : List ℕ) → 0 < length m.names.roles → nat_lt (role_by_name m s).0 (length m.names.roles) ≡ true
role_numbered m s some = below_test (role_by_name m s).0 (length m.names.roles) (number_below s m.names.roles (place_of s m.names.roles) refl some)

head_numbered : (dia : Dialect) (m : Numbering) (s : List ℕ) (r : BehindRole dia) → 0 < length m.names.roles → is_head_numbered m (head_of dia m s r) ≡ true
head_numbered Talks m s (sends_to r) some = two_true (nat_lt (role_by_name m s).0 (length m.names.roles)) (nat_lt (role_by_name m r).0 (length m.names.roles)) (role_numbered m s some)
    (role_numbered m r some)
head_numbered Acts m s (with_mark x) some = role_numbered m s some

front_labels : (m : Numbering) (xs ys : List (List ℕ)) → list_all (is_numbered m) (xs ++ ys) ≡ true → (list_all (is_numbered m) xs ≡ true) × (list_all (is_numbered m) ys ≡ true)
front_labels m xs ys h = both (list_all (is_numbered m) xs) (list_all (is_numbered m) ys) (sym (list_all-append (is_numbered m) xs ys) ∙ h)

joined_places : (m : Numbering) (xs ys : List Place) → list_all (is_place_numbered m) xs ≡ true → list_all (is_place_numbered m) ys ≡ true → list_all (is_place_numbered m) (xs ++ ys) ≡ true
joined_places m xs ys h k = list_all-append (is_place_numbered m) xs ys ∙ two_true (list_all (is_place_numbered m) xs) (list_all (is_place_numbered m) ys) h k

arms_numbered : {dia : Dialect} (arms : Branches dia) (m : Numbering) (bound : BoundNames) (k : ℕ) → list_all (is_numbered m) (labels_of_arms dia arms) ≡ true
    → list_all (is_arm_numbered m) (arms_of dia m arms bound k) ≡ true
arms_numbered {dia} (one l sort body) m bound k h = two_true (is_numbered m l) true (both (is_numbered m l) (list_all (is_numbered m) (labels_of dia body)) h).0 refl
arms_numbered {dia} (more l sort body arms) m bound k h =
    let p = both (is_numbered m l) (list_all (is_numbered m) (labels_of dia body ++ labels_of_arms dia arms)) h in
    let q = front_labels m (labels_of dia body) (labels_of_arms dia arms) p.1 in
    two_true (is_numbered m l) (list_all (is_arm_numbered m) (arms_of dia m arms bound (k + acts_in dia body))) p.0 (arms_numbered arms m bound (k + acts_in dia body) q.1)

mutual
  places_numbered : {dia : Dialect} (b : Body dia) (m : Numbering) (bound : BoundNames) (k : ℕ) → 0 < length m.names.roles → list_all (is_numbered m) (labels_of dia b) ≡ true
      → list_all (is_place_numbered m) (places_in m b bound k) ≡ true
  places_numbered ends m bound k some h = refl
  places_numbered (again name) m bound k some h = refl
  places_numbered (binds name body) m bound k some h = places_numbered body m ((name, k) ∷ bound) k some h
  places_numbered {dia} (acts s r l sort body) m bound k some h =
      let p = both (is_numbered m l) (list_all (is_numbered m) (labels_of dia body)) h in
      two_true (is_head_numbered m (head_of dia m s r) && (is_numbered m l && true)) (list_all (is_place_numbered m) (places_in m body bound (suc k)))
      (two_true (is_head_numbered m (head_of dia m s r)) (is_numbered m l && true) (head_numbered dia m s r some) (two_true (is_numbered m l) true p.0 refl))
      (places_numbered body m bound (suc k) some p.1)
  places_numbered {dia} (offers s r arms) m bound k some h =
      two_true (is_head_numbered m (head_of dia m s r) && list_all (is_arm_numbered m) (arms_of dia m arms bound (suc k))) (list_all (is_place_numbered m) (places_in_arms m arms bound (suc k)))
      (two_true (is_head_numbered m (head_of dia m s r)) (list_all (is_arm_numbered m) (arms_of dia m arms bound (suc k))) (head_numbered dia m s r some) (arms_numbered arms m bound (suc k) h))
      (behind_numbered arms m bound (suc k) some h)

  behind_numbered : {dia : Dialect} (arms : Branches dia) (m : Numbering) (bound : BoundNames) (k : ℕ) → 0 < length m.names.roles → list_all (is_numbered m) (labels_of_arms dia arms) ≡ true
      → list_all (is_place_numbered m) (places_in_arms m arms bound k) ≡ true
  behind_numbered {dia} (one l sort body) m bound k some h = places_numbered body m bound k some (both (is_numbered m l) (list_all (is_numbered m) (labels_of dia body)) h).1
  behind_numbered {dia} (more l sort body arms) m bound k some h =
      let p = both (is_numbered m l) (list_all (is_numbered m) (labels_of dia body ++ labels_of_arms dia arms)) h in
      let q = front_labels m (labels_of dia body) (labels_of_arms dia arms) p.1 in
      joined_places m (places_in m body bound k) (places_in_arms m arms bound (k + acts_in dia body)) (places_numbered body m bound k some q.0)
      (behind_numbered arms m bound (k + acts_in dia body) some q.1)

-- ---- the labels of a text

abbrev pub with_name : List ℕ → List (List ℕ) → List (List ℕ)
with_name x names = if is_among x names then names else names ++ x ∷ []

pub placed : (x : List ℕ) (names : List (List ℕ)) → (k : ℕ) × (place_of x (with_name x names) ≡ Some k)
placed x names = elim (true_or_false (is_among x names)) [
  | inl e ↦ rw e (placed_by (place_of x names) x names refl e)
  | inr e ↦ rw e (length names, place_of_new names x (absent_by (place_of x names) x names refl e))
]

numbered_in : (xs names : List (List ℕ)) (m : Numbering) → m.names.labels ≡ names_with names xs → list_all (is_numbered m) xs ≡ true
numbered_in [] names m h = refl
numbered_in (x ∷ xs) names m h =
    let p = placed x names in
    let e : place_of x m.names.labels ≡ Some p.0 = ap (λ z. place_of x z) h ∙ grown_stays xs (with_name x names) x p.0 p.1 in
    two_true (is_numbered m x) (list_all (is_numbered m) xs) (rw e (below_test p.0 (length m.names.labels) (place_below m.names.labels x p.0 e))) (numbered_in xs (with_name x names) m h)

-- ---- one by one

end_numbered : (end : Bool) (m : Numbering) → list_all (is_place_numbered m) (end_of end) ≡ true
end_numbered true m = refl
end_numbered false m = refl

head_named : (m : Numbering) (h : Head) → is_head_numbered m h ≡ true → HeadHasNames m.names h
head_named m (head.Talk s r) e =
    let p = both (nat_lt s.0 (length m.names.roles)) (nat_lt r.0 (length m.names.roles)) e in (test_below s.0 (length m.names.roles) p.0, test_below r.0 (length m.names.roles) p.1)
head_named m (head.Act p x) e = test_below p.0 (length m.names.roles) e

pub tree_named : {dia : Dialect} (labels : List (List ℕ)) (m : Numbering) (p : List Place) (t : Body dia) → 0 < length m.names.roles → m.names.labels ≡ names_with labels (labels_of dia t)
    → p ≡ places_in m t [] 0 ++ end_of (has_end dia t) → HaveNames m.names p
tree_named {dia} labels m p t some is e =
    let all : list_all (is_place_numbered m) p ≡ true = ap (λ z. list_all (is_place_numbered m) z) e
    ∙ joined_places m (places_in m t [] 0) (end_of (has_end dia t)) (places_numbered t m [] 0 some (numbered_in (labels_of dia t) labels m is)) (end_numbered (has_end dia t) m) in
    let at : (n : ℕ) (h : Head) (arms : List Arm) → slice_get p n ≡ Some (choice h arms) → (is_head_numbered m h ≡ true) × (list_all (is_arm_numbered m) arms ≡ true)
    = λ n h arms stands. both (is_head_numbered m h) (list_all (is_arm_numbered m) arms) (one_of (is_place_numbered m) p n (choice h arms) all stands) in
    record {
      heads = λ n h arms stands. head_named m h (at n h arms stands).0;
      labels = λ n index h arms arm stands holds. test_below arm.label.0 (length m.names.labels) (one_of (is_arm_numbered m) arms index arm (at n h arms stands).1 holds);
    }

pub spelt_names : (dia : Dialect) (p : List Place) (root : ℕ) (s : IsSpelt dia p root) → 0 < length s.new.roles → HaveNames s.new p
spelt_names dia p root s some =
    let t = s.spells.tree in
    let same : s.new ≡ names_of dia s.old t = s.spells.names_are in
    let few : 0 < length (names_of dia s.old t).roles = subst (λ (z : Names_data). 0 < length z.roles) same some in
    subst (λ (z : Names_data). HaveNames z p) (sym same) (tree_named s.old.labels (numbering dia s.old t) p t.body few refl (spelt_tree dia p root s).places)
