-- What the slots hold at the end.
use Rattle.std.proofs.Common.{◌≡◌, ℕ, zero, suc, ◌+◌, ◌<◌, ◌≤◌, List, [], ◌∷◌, length, drop, true, refl, ap, subst, inl, arith, Option, Some, None, slice_get, length-drop}
use mathlib.Core.Option.{some}
use lib.ListN.{get_elem?}
use Rattle.atomic_table.specs.Table.{State, Seen}
use Rattle.rs_slots.specs.Places.{IsPair}
use Rattle.rs_slots.specs.declared.parcels.Parcel.{Parcel}
use Rattle.rs_rings.specs.Acts.{parcels_sent, parcels_got}
use Rattle.rs_rings.specs.Emptied.{AllHold}
use Rattle.rs_rings.specs.Places.{slot_place}
use Rattle.rs_rings.specs.Rule.{RingsShow, RingRule, ring_facts}
use Rattle.rs_rings.specs.Views.{speaks, the_part, is_putting, parcel_in_hand, history_in, parcels_under_way}
use Rattle.rs_rings.specs.declared.views.Key.{Key}
use Rattle.rs_rings.specs.declared.views.Part.{Part}
use Rattle.rs_rings.specs.declared.views.View.{View}
use Rattle.rs_rings.specs.declared.views.Middle.TheVariants.{Idle}
use Rattle.rs_rings.proofs.Parts.{known_is}

at_get : {A : Type 0} (l : List A) (i : ℕ) (x : A) → slice_get l i ≡ Some x → get_elem? l i ≡ some x
at_get [] i x e = absurd (cc (e))
at_get (y ∷ l) zero x e = let is : y ≡ x = cc (e) in ap some is
at_get (y ∷ l) (suc i) x e = at_get l i x e

-- the ith of what is behind the first g
at_drop : {A : Type 0} (l : List A) (g i : ℕ) (x : A) → slice_get (drop g l) i ≡ Some x → get_elem? l (g + i) ≡ some x
at_drop l zero i x e = let z : i ≡ zero + i = omega arith in subst (λ (k : ℕ). get_elem? l k ≡ some x) z (at_get l i x e)
at_drop [] (suc g) i x e = absurd (cc (e))
at_drop (y ∷ l) (suc g) i x e = let z : suc (g + i) ≡ suc g + i = omega arith in subst (λ (k : ℕ). get_elem? (y ∷ l) k ≡ some x) z (at_drop l g i x e)

past : {A : Type 0} (l : List A) (i : ℕ) → slice_get l i ≡ None → length l ≤ i
past [] i e = omega arith
past (y ∷ l) zero e = absurd (cc (e))
past (y ∷ l) (suc i) e = let r = past l i e in omega arith

module _ (key : Key) (id : ℕ) (v : View) (s : State (Option Parcel) View) (xs : List (Option Parcel)) (all : (r : ℕ) → r < key.roles → speaks r v.parts ≡ true)
    (idle : (r : ℕ) → r < key.roles → (the_part r v.parts).middle ≡ Idle)
    (seen : Seen (RingsShow key) id v s) (home : (k : ℕ) (y : Option Parcel) → get_elem? s.homes k ≡ some (some y) → get_elem? xs k ≡ some y) where
  pub slots_hold : (p q : ℕ) → IsPair key.roles p q → (i : ℕ) → i < key.capacity
      → get_elem? xs (slot_place key.roles key.capacity p q (length (parcels_got p (history_in v q)) + i)) ≡ some (slice_get (parcels_under_way v p q) i)
  slots_hold p q pair i l = by (slice_get (parcels_under_way v p q) i) refl
    where
      sh : RingsShow key s
      sh = seen.0

      a : Part
      a = the_part p v.parts

      b : Part
      b = the_part q v.parts

      fl : RingRule key.capacity (ring_facts key.roles key.capacity s.words s.homes p q a b)
      fl = let kn = known_is key.roles sh.owner sh.known s.views sh.spoken id v seen.1 in
          subst (λ (z : Part × Part). RingRule key.capacity (ring_facts key.roles key.capacity s.words s.homes p q z.0 z.1)) (λ i. ((kn p (all p pair.sender)).1 i, (kn q (all q pair.receiver)).1 i))
          (sh.rings p q pair.sender pair.receiver pair.differ)

      by : (o : Option Parcel) → slice_get (parcels_under_way v p q) i ≡ o → get_elem? xs (slot_place key.roles key.capacity p q (length (parcels_got p (history_in v q)) + i)) ≡ some o
      by (Some x) e = let g : ℕ = length (parcels_got p b.history) in let here = at_drop (parcels_sent q a.history) g i x e in
          home (slot_place key.roles key.capacity p q (g + i)) (Some x) (fl.full (g + i) x (omega arith) here (inl (ap (parcel_in_hand p) (idle q pair.receiver))))
      by None e = let g : ℕ = length (parcels_got p b.history) in let n : ℕ = length (parcels_sent q a.history) in let r = past (parcels_under_way v p q) i e in let m =
          length-drop g (parcels_sent q a.history) in
          home (slot_place key.roles key.capacity p q (g + i)) None (fl.free (g + i) (omega arith) (omega arith) (inl (ap (is_putting q) (idle p pair.sender))))

  pub few_left : (p q : ℕ) → IsPair key.roles p q → length (parcels_under_way v p q) ≤ key.capacity
  few_left p q pair = let kn = known_is key.roles seen.0.owner seen.0.known s.views seen.0.spoken id v seen.1 in
      let fl : RingRule key.capacity (ring_facts key.roles key.capacity s.words s.homes p q (the_part p v.parts) (the_part q v.parts)) =
      subst (λ (z : Part × Part). RingRule key.capacity (ring_facts key.roles key.capacity s.words s.homes p q z.0 z.1)) (λ i. ((kn p (all p pair.sender)).1 i, (kn q (all q pair.receiver)).1 i))
      (seen.0.rings p q pair.sender pair.receiver pair.differ) in
      let g : ℕ = length (parcels_got p (history_in v q)) in let n : ℕ = length (parcels_sent q (history_in v p)) in let m = length-drop g (parcels_sent q (history_in v p)) in let room =
      fl.room in omega arith

  pub all_hold : AllHold xs key.roles key.capacity v
  all_hold p q pair = (few_left p q pair, slots_hold p q pair)
