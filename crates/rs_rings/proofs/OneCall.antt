-- A load finds a number that the peer had between any moment before the call and any moment after it.
use Rattle.std.proofs.Common.{◌≡◌, ℕ, suc, ◌≤◌, List, [], ◌∷◌, ◌++◌, length, Option, refl, sym, ap, ◌∙◌, subst, arith, append-nil, append_assoc, flat_map}
use native.Mathlib.Decide.{dec_le}
use mathlib.Core.Logic.{dite}
use Rattle.atomic_table.specs.Table.{State}
use Rattle.atomic_table.proofs.Lists.{at_longer}
use Rattle.rs_slots.specs.Places.{IsPair}
use Rattle.rs_slots.specs.declared.parcels.Parcel.{Parcel}
use Rattle.rs_rings.specs.Acts.{sent_act, got_act, parcels_sent, parcels_got}
use Rattle.rs_rings.specs.Looks.{IsKnown, GoesOn}
use Rattle.rs_rings.specs.Rule.{AreStamped, RingRule, RingsShow, ring_facts}
use Rattle.rs_rings.specs.Views.{last_found, loads_with, stamp_with, stamps_with, gaining, sending, taking, getting}
use Rattle.rs_rings.specs.declared.views.Key.{Key}
use Rattle.rs_rings.specs.declared.views.Part.{Part}
use Rattle.rs_rings.specs.declared.views.View.{View}
use Rattle.rs_rings.proofs.FourSteps.{found_here, loads_here}
use Rattle.rs_rings.proofs.OneRing.{below_at}
use Rattle.rs_rings.proofs.Parts.{known_is}

abbrev St : Type 0
St = State (Option Parcel) View

both : {A B : Type 0} (f : A → List B) (xs ys : List A) → flat_map f (xs ++ ys) ≡ flat_map f xs ++ flat_map f ys
both f [] ys = refl
both f (x ∷ xs) ys = ap (λ r. f x ++ r) (both f xs ys) ∙ sym (append_assoc (f x) (flat_map f xs) (flat_map f ys))

-- so many were stamped before a load, and more behind it; the load counted n
stamped_before : (xs ys : List ℕ) (count more loads loads' found n : ℕ) → AreStamped xs count loads found → AreStamped (xs ++ ys) more loads' n → loads' ≡ suc loads → count ≤ n
stamped_before xs ys count more loads loads' found n a b one = dite (dec_le count n) (λ le. le)
    (λ no. let e = a.each in let there = below_at xs n (omega arith) in let old = a.before n there.0 there.1 in
    let new = b.uncounted n there.0 (omega arith) (at_longer xs ys n there.0 there.1) in absurd (omega arith))

-- what is known of two roles is what the ring between them shows
ring_known : (key : Key) (s : St) (sh : RingsShow key s) (p q : ℕ) (a b : Part) → IsPair key.roles p q → IsKnown s p a → IsKnown s q b
    → RingRule key.capacity (ring_facts key.roles key.capacity s.words s.homes p q a b)
ring_known key s sh p q a b pair x y =
    let one : sh.known p ≡ a = (known_is key.roles sh.owner sh.known s.views sh.spoken x.seat x.view x.present p x.speaks_for).1 ∙ x.knows in
    let other : sh.known q ≡ b = (known_is key.roles sh.owner sh.known s.views sh.spoken y.seat y.view y.present q y.speaks_for).1 ∙ y.knows in
    subst (λ (z : Part × Part). RingRule key.capacity (ring_facts key.roles key.capacity s.words s.homes p q z.0 z.1)) (λ i. (one i, other i)) (sh.rings p q pair.sender pair.receiver pair.differ)

pub tail_in_call : (key : Key) (s t : St) (p q : ℕ) (a a' b b' : Part) (n : ℕ) → RingsShow key s → RingsShow key t → IsPair key.roles p q → IsKnown s p a → IsKnown t p a' → GoesOn a a' → IsKnown s q b
    → IsKnown t q b' → b'.tails ≡ record { peer = p; found = n } ∷ b.tails → (length (parcels_sent q a.history) ≤ n) × (n ≤ length (parcels_sent q a'.history))
tail_in_call key s t p q a a' b b' n sh th pair ka ka' on kb kb' is =
    let f = ring_known key s sh p q a b pair ka kb in
    let g = ring_known key t th p q a' b' pair ka' kb' in
    let found : last_found p b'.tails ≡ n = ap (last_found p) is ∙ found_here p n b.tails in
    let loads : loads_with p b'.tails ≡ suc (loads_with p b.tails) = ap (loads_with p) is ∙ loads_here p n b.tails in
    let stamps : stamps_with q a'.put_stamps ≡ stamps_with q a.put_stamps ++ stamps_with q on.puts = ap (stamps_with q) on.put_stamps ∙ both (stamp_with q) a.put_stamps on.puts in
    let after : AreStamped (stamps_with q a.put_stamps ++ stamps_with q on.puts) (length (parcels_sent q a'.history)) (loads_with p b'.tails) n
    = subst (λ (z : List ℕ × ℕ). AreStamped z.0 (length (parcels_sent q a'.history)) (loads_with p b'.tails) z.1) (λ i. (stamps i, found i)) g.puts_stamped in (
      stamped_before (stamps_with q a.put_stamps) (stamps_with q on.puts) (length (parcels_sent q a.history)) (length (parcels_sent q a'.history)) (loads_with p b.tails) (loads_with p b'.tails)
          (last_found p b.tails) n f.puts_stamped after loads,
      subst (λ (z : ℕ). z ≤ length (parcels_sent q a'.history)) found g.read_tail,
    )

pub head_in_call : (key : Key) (s t : St) (p q : ℕ) (a a' b b' : Part) (n : ℕ) → RingsShow key s → RingsShow key t → IsPair key.roles p q → IsKnown s q b → IsKnown t q b' → GoesOn b b' → IsKnown s p a
    → IsKnown t p a' → a'.heads ≡ record { peer = q; found = n } ∷ a.heads → (length (parcels_got p b.history) ≤ n) × (n ≤ length (parcels_got p b'.history))
head_in_call key s t p q a a' b b' n sh th pair kb kb' on ka ka' is =
    let f = ring_known key s sh p q a b pair ka kb in
    let g = ring_known key t th p q a' b' pair ka' kb' in
    let found : last_found q a'.heads ≡ n = ap (last_found q) is ∙ found_here q n a.heads in
    let loads : loads_with q a'.heads ≡ suc (loads_with q a.heads) = ap (loads_with q) is ∙ loads_here q n a.heads in
    let stamps : stamps_with p b'.take_stamps ≡ stamps_with p b.take_stamps ++ stamps_with p on.takes = ap (stamps_with p) on.take_stamps ∙ both (stamp_with p) b.take_stamps on.takes in
    let after : AreStamped (stamps_with p b.take_stamps ++ stamps_with p on.takes) (length (parcels_got p b'.history)) (loads_with q a'.heads) n
    = subst (λ (z : List ℕ × ℕ). AreStamped z.0 (length (parcels_got p b'.history)) (loads_with q a'.heads) z.1) (λ i. (stamps i, found i)) g.takes_stamped in (
      stamped_before (stamps_with p b.take_stamps) (stamps_with p on.takes) (length (parcels_got p b.history)) (length (parcels_got p b'.history)) (loads_with q a.heads) (loads_with q a'.heads)
          (last_found q a.heads) n f.takes_stamped after loads,
      subst (λ (z : ℕ). z ≤ length (parcels_got p b'.history)) found g.read_head,
    )

pub goes_on_on : (a b c : Part) → GoesOn a b → GoesOn b c → GoesOn a c
goes_on_on a b c x y = record {
  acts = x.acts ++ y.acts;
  puts = x.puts ++ y.puts;
  takes = x.takes ++ y.takes;
  history = y.history ∙ ap (λ h. h ++ y.acts) x.history ∙ append_assoc a.history x.acts y.acts;
  put_stamps = y.put_stamps ∙ ap (λ h. h ++ y.puts) x.put_stamps ∙ append_assoc a.put_stamps x.puts y.puts;
  take_stamps = y.take_stamps ∙ ap (λ h. h ++ y.takes) x.take_stamps ∙ append_assoc a.take_stamps x.takes y.takes;
}

-- a look changes no history
pub look_goes_on : (a b : Part) → b.history ≡ a.history → b.put_stamps ≡ a.put_stamps → b.take_stamps ≡ a.take_stamps → GoesOn a b
look_goes_on a b h p t = record {
  acts = [];
  puts = [];
  takes = [];
  history = h ∙ sym (append-nil a.history);
  put_stamps = p ∙ sym (append-nil a.put_stamps);
  take_stamps = t ∙ sym (append-nil a.take_stamps);
}

pub sent_goes_on : (a : Part) (q : ℕ) (x : Parcel) (next loads n : ℕ) → GoesOn a (sending q x next loads (gaining q n a))
sent_goes_on a q x next loads n = record {
  acts = sent_act q x ∷ [];
  puts = record { peer = q; loads = loads } ∷ [];
  takes = [];
  history = refl;
  put_stamps = refl;
  take_stamps = sym (append-nil a.take_stamps);
}

pub got_goes_on : (b : Part) (p : ℕ) (x : Parcel) (next loads n : ℕ) → GoesOn b (getting p x next loads (taking p x n b))
got_goes_on b p x next loads n = record {
  acts = got_act p x ∷ [];
  puts = [];
  takes = record { peer = p; loads = loads } ∷ [];
  history = refl;
  put_stamps = sym (append-nil b.put_stamps);
  take_stamps = refl;
}
