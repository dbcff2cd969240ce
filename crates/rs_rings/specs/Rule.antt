-- Public: the rule of the table, which holds between any two steps.
use Rattle.std.specs.Prelude.{◌≡◌, ◌≢◌, ◌⊎◌, ℕ, ◌+◌, ◌*◌, ◌<◌, ◌≤◌, Bool, true, false, List, ◌++◌, length, drop, slice_index, map, Option, Some, None}
use mathlib.Core.Option.{some}
use mathlib.Core.Option as maybe
use lib.ListN.{get_elem?}
use Rattle.atomic_table.specs.Table.{State}
use Rattle.rs_model.specs.Data.{Machine_data}
use Rattle.rs_core.specs.Choices.{AreWellFormed}
use Rattle.rs_core.specs.Configurations.{Configuration}
use Rattle.rs_core.specs.Histories.{History, IsLegal}
use Rattle.rs_core.specs.Safety.{IsSafe}
use Rattle.rs_slots.specs.Places.{ring_count}
use Rattle.rs_slots.specs.declared.parcels.Parcel.{Parcel}
use Rattle.rs_rings.specs.Acts.{message_of, parcels_sent, parcels_got}
use Rattle.rs_rings.specs.Places.{head_word_of, tail_of, slot_place}
use Rattle.rs_rings.specs.Views.{last_found, loads_with, stamps_with, is_putting, parcel_in_hand, speaks, the_part, first_parts}
use Rattle.rs_rings.specs.declared.views.Key.{Key}
use Rattle.rs_rings.specs.declared.views.Part.{Part}
use Rattle.rs_rings.specs.declared.views.View.{View}

-- what is known of one ring: its tail word and its head word; what stands in the slot of each parcel number, where a slot
-- is at home with a parcel or with none, or is out with a seat; what its sender has sent and its receiver has got; the
-- numbers that the two last read of each other's word, how many loads of it they made, and the stamps of what was put and
-- taken; and whether either is in the middle of a call on this ring
pub record RingFacts : Type 0 where
  pub tail : ℕ
  pub head : ℕ
  pub slot : ℕ → maybe.Option (maybe.Option (Option Parcel))
  pub sent : List Parcel
  pub got : List Parcel
  pub seen_head : ℕ
  pub seen_tail : ℕ
  pub head_loads : ℕ
  pub tail_loads : ℕ
  pub put_stamps : List ℕ
  pub take_stamps : List ℕ
  pub putting : Bool
  pub taking : Option Parcel

-- the stamps of so many parcels, where the peer has made so many loads and counted `found` of the parcels at its last one
pub record AreStamped (stamps : List ℕ) (count loads found : ℕ) : Type 0 where
  pub each : length stamps ≡ count
  pub before : (k n : ℕ) → get_elem? stamps k ≡ some n → n ≤ loads
  -- what the last load didn't count came behind all loads
  pub uncounted : (k n : ℕ) → found ≤ k → get_elem? stamps k ≡ some n → n ≡ loads

-- what holds of each ring
pub record RingRule (capacity : ℕ) (f : RingFacts) : Type 0 where
  -- the words count what was sent and what was got
  pub tail_is : f.tail ≡ length f.sent
  pub head_is : f.head ≡ length f.got
  -- what was got is what was sent first, and at most as many parcels as there are slots are under way
  pub order : f.sent ≡ f.got ++ drop (length f.got) f.sent
  pub room : length f.sent ≤ length f.got + capacity
  -- the slots of the parcels under way are at home and hold them, but for the oldest one's in the middle of a take
  pub full : (k : ℕ) (x : Parcel) → length f.got ≤ k → get_elem? f.sent k ≡ some x → (f.taking ≡ None) ⊎ (k ≢ length f.got) → f.slot k ≡ some (some (Some x))
  -- the other slots are at home and empty, but for the next one's in the middle of a put
  pub free : (k : ℕ) → length f.sent ≤ k → k < length f.got + capacity → (f.putting ≡ false) ⊎ (k ≢ length f.sent) → f.slot k ≡ some (some None)
  -- who is in the middle of a take takes the oldest parcel under way, and the number that it read tells that one is there
  pub takes : (x : Parcel) → f.taking ≡ Some x → get_elem? f.sent (length f.got) ≡ some x
  pub finds : (x : Parcel) → f.taking ≡ Some x → length f.got < f.seen_tail
  -- who is in the middle of a put has room, by the number that it read
  pub puts : f.putting ≡ true → length f.sent < f.seen_head + capacity
  -- what was last read of a word is at most that word
  pub read_head : f.seen_head ≤ length f.got
  pub read_tail : f.seen_tail ≤ length f.sent
  -- each parcel that was put or taken is stamped
  pub puts_stamped : AreStamped f.put_stamps (length f.sent) f.tail_loads f.seen_tail
  pub takes_stamped : AreStamped f.take_stamps (length f.got) f.head_loads f.seen_head

-- the facts of the ring from p to q, where a is known of p and b of q
abbrev pub ring_facts : ℕ → ℕ → List ℕ → List (maybe.Option (Option Parcel)) → ℕ → ℕ → Part → Part → RingFacts
ring_facts roles capacity words homes p q a b = record {
  tail = slice_index words (tail_of roles p q);
  head = slice_index words (head_word_of roles p q);
  slot = λ k. get_elem? homes (slot_place roles capacity p q k);
  sent = parcels_sent q a.history;
  got = parcels_got p b.history;
  seen_head = last_found q a.heads;
  seen_tail = last_found p b.tails;
  head_loads = loads_with q a.heads;
  tail_loads = loads_with p b.tails;
  put_stamps = stamps_with q a.put_stamps;
  take_stamps = stamps_with p b.take_stamps;
  putting = is_putting q a.middle;
  taking = parcel_in_hand p b.middle;
}

-- each ring is as its two roles know it
abbrev pub AllRings : ℕ → ℕ → List ℕ → List (maybe.Option (Option Parcel)) → (ℕ → Part) → Type 0
AllRings roles capacity words homes known = (p q : ℕ) → p < roles → q < roles → p ≢ q → RingRule capacity (ring_facts roles capacity words homes p q (known p) (known q))

-- each role is spoken for by its owner's view, which knows this of it, and by no other view; and no view speaks for a
-- number that is no role
pub record Spoken (roles : ℕ) (owner : ℕ → ℕ) (known : ℕ → Part) (views : List View) : Type 0 where
  pub each : (r : ℕ) → r < roles → (d : View) × (get_elem? views (owner r) ≡ some d) × (speaks r d.parts ≡ true) × (the_part r d.parts ≡ known r)
  pub only : (j : ℕ) (d : View) (r : ℕ) → get_elem? views j ≡ some d → speaks r d.parts ≡ true → (owner r ≡ j) × (r < roles)

-- what is known of all roles, as a configuration and as histories: in the queue from p to q is what p has sent and q hasn't
-- got
abbrev pub configuration_by : (ℕ → Part) → Configuration
configuration_by known = record {
  at = λ p. (known p).state;
  queue = λ p q. map message_of (drop (length (parcels_got p (known q).history)) (parcels_sent q (known p).history));
}

-- what each role has done
abbrev pub histories_of : (ℕ → Part) → ℕ → History
histories_of known p = (known p).history

-- these histories are legal, and lead to that configuration
abbrev pub AreLegal : List Machine_data → (ℕ → Part) → Type 0
AreLegal machines known = IsLegal machines (histories_of known) (configuration_by known)

-- the machines that the table was made with
abbrev pub machines_in_key : Key → List Machine_data
machines_in_key key = key.machines.items

-- the rule: the views speak for each role once, the rings show what they know, and what they know is legal
pub record RingsShow (key : Key) (s : State (Option Parcel) View) : Type 0 where
  pub owner : ℕ → ℕ
  pub known : ℕ → Part
  pub roomy : 0 < key.capacity
  pub word_count : length s.words ≡ 2 * ring_count key.roles
  pub slot_count : length s.homes ≡ ring_count key.roles * key.capacity
  pub spoken : Spoken key.roles owner known s.views
  pub rings : AllRings key.roles key.capacity s.words s.homes known
  pub machine_count : length (machines_in_key key) ≡ key.roles
  pub safe : IsSafe (machines_in_key key)
  pub well_formed : AreWellFormed (machines_in_key key)
  pub legal : AreLegal (machines_in_key key) known

-- the view of the first seat
abbrev pub first_view : Key → View
first_view key = record { parts = first_parts (machines_in_key key) key.roles }
