-- The places that a body spells, and where its names lead.
use Rattle.std.proofs.Common.{◌≡◌, ◌≢◌, ℕ, suc, ◌+◌, ◌<◌, List, [], ◌∷◌, Bool, true, false, ◌==◌, if◌then◌else◌, Option, Some, None, refl, ap, ◌∙◌, arith}
use Rattle.std.proofs.lemmas.Bool.{ltb-true}
use Rattle.std.proofs.lemmas.List.Folds.{list_any-append}
use Rattle.std.specs.List.{list_any}
use Rattle.std.specs.Str.{bytes_eq}
use Rattle.rs_text.specs.Names.{BoundNames, nearest_binding, number_or}
use Rattle.rs_text.proofs.Basics.{false_or, not_equal}
use Rattle.rs_bodies.specs.declared.dialects.Dialect.{Dialect}
use Rattle.rs_bodies.specs.Fits.{is_guarded}
use Rattle.rs_bodies.specs.Graph.{acts_in, first_of, Numbering, arm_spelt, arms_of}
use Rattle.rs_bodies.specs.Shapes.{leads_to, place_leads}
use Rattle.rs_bodies.specs.Trees.{Body, ends, again, binds, acts, offers, Branches, one, more}
use Rattle.rs_bodies.proofs.Fitting.{Named, NamedArms}
use Rattle.rs_bodies.proofs.NamesLead.{Low, Ins}
use Rattle.rs_bodies.proofs.PlacesIn.{places_in, places_in_arms}

-- ---- where names lead

-- no name leads to v
abbrev pub Unbound : BoundNames → ℕ → Type 0
Unbound bound v = (x : List ℕ) → nearest_binding x bound ≢ Some v

unbound_pick : (c : Bool) (k v : ℕ) (found : Option ℕ) → k ≢ v → found ≢ Some v → (if c then Some k else found) ≢ Some v
unbound_pick true k v found ne h e = ne (cc e)
unbound_pick false k v found ne h e = h e

pub low_unbound : (bound : BoundNames) (n v : ℕ) → Low bound n → n < v → Unbound bound v
low_unbound bound n v low lt x e = let h : v < n + 1 = low x v e in omega arith

pub name_from : (x : List ℕ) (bound : BoundNames) (from k : ℕ) (found : Option ℕ) → nearest_binding x bound ≡ found → is_guarded found k ≡ true → Ins bound from k → number_or found < from
name_from x bound from k None e g ins = absurd (cc g)
name_from x bound from k (Some v) e g ins = ins x v e (ltb-true v k g)

-- ---- no arm leads elsewhere

name_else : (x : List ℕ) (bound : BoundNames) (k v : ℕ) (found : Option ℕ) → nearest_binding x bound ≡ found → is_guarded found k ≡ true → Unbound bound v → number_or found ≢ v
name_else x bound k v None e g un h = absurd (cc g)
name_else x bound k v (Some n) e g un h = un x (e ∙ ap Some h)

leads_else : (dia : Dialect) (b : Body dia) (bound : BoundNames) (k v last : ℕ) → Named dia b bound k → Unbound bound v → v < k → v < last → first_of dia b bound k last ≢ v
leads_else dia ends bound k v last named un lt low h = omega arith
leads_else dia (again x) bound k v last named un lt low h = name_else x bound k v (nearest_binding x bound) refl named un h
leads_else dia (binds x b) bound k v last named un lt low h =
    leads_else dia b ((x, k) ∷ bound) k v last named (λ y. unbound_pick (bytes_eq x y) k v (nearest_binding y bound) (λ e. omega arith) (un y)) lt low h
leads_else dia (acts s r l sort b) bound k v last named un lt low h = omega arith
leads_else dia (offers s r arms) bound k v last named un lt low h = omega arith

arms_else : (dia : Dialect) (m : Numbering) (arms : Branches dia) (bound : BoundNames) (k v : ℕ) → NamedArms dia arms bound k → Unbound bound v → v < k → v < m.last
    → list_any (leads_to v) (arms_of dia m arms bound k) ≡ false
arms_else dia m (one l sort b) bound k v named un lt low =
    false_or (first_of dia b bound k m.last == v) false (not_equal (first_of dia b bound k m.last) v (leads_else dia b bound k v m.last named un lt low)) refl
arms_else dia m (more l sort b arms) bound k v named un lt low =
    false_or (first_of dia b bound k m.last == v) (list_any (leads_to v) (arms_of dia m arms bound (k + acts_in dia b)))
    (not_equal (first_of dia b bound k m.last) v (leads_else dia b bound k v m.last named.0 un lt low)) (arms_else dia m arms bound (k + acts_in dia b) v named.1 un (omega arith) low)

mutual
  places_else : (dia : Dialect) (m : Numbering) (b : Body dia) (bound : BoundNames) (k v : ℕ) → Named dia b bound k → Unbound bound v → v < k → v < m.last
      → list_any (place_leads v) (places_in m b bound k) ≡ false
  places_else dia m ends bound k v named un lt low = refl
  places_else dia m (again x) bound k v named un lt low = refl
  places_else dia m (binds x b) bound k v named un lt low =
      places_else dia m b ((x, k) ∷ bound) k v named (λ y. unbound_pick (bytes_eq x y) k v (nearest_binding y bound) (λ e. omega arith) (un y)) lt low
  places_else dia m (acts s r l sort b) bound k v named un lt low =
      false_or (list_any (leads_to v) (arm_spelt m l sort (first_of dia b bound (suc k) m.last) ∷ [])) (list_any (place_leads v) (places_in m b bound (suc k)))
      (false_or (first_of dia b bound (suc k) m.last == v) false (not_equal (first_of dia b bound (suc k) m.last) v (leads_else dia b bound (suc k) v m.last named un (omega arith) low)) refl)
      (places_else dia m b bound (suc k) v named un (omega arith) low)
  places_else dia m (offers s r arms) bound k v named un lt low =
      false_or (list_any (leads_to v) (arms_of dia m arms bound (suc k))) (list_any (place_leads v) (places_in_arms m arms bound (suc k)))
      (arms_else dia m arms bound (suc k) v named un (omega arith) low) (arm_places_else dia m arms bound (suc k) v named un (omega arith) low)

  pub arm_places_else : (dia : Dialect) (m : Numbering) (arms : Branches dia) (bound : BoundNames) (k v : ℕ) → NamedArms dia arms bound k → Unbound bound v → v < k → v < m.last
      → list_any (place_leads v) (places_in_arms m arms bound k) ≡ false
  arm_places_else dia m (one l sort b) bound k v named un lt low = places_else dia m b bound k v named un lt low
  arm_places_else dia m (more l sort b arms) bound k v named un lt low =
      list_any-append (place_leads v) (places_in m b bound k) (places_in_arms m arms bound (k + acts_in dia b))
      ∙ false_or (list_any (place_leads v) (places_in m b bound k)) (list_any (place_leads v) (places_in_arms m arms bound (k + acts_in dia b))) (places_else dia m b bound k v named.0 un lt low)
      (arm_places_else dia m arms bound (k + acts_in dia b) v named.1 un (omega arith) low)
