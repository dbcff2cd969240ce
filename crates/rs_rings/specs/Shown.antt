-- Public: what the words, slots and views of a table show between any two steps, and what a step changes of it.
use Rattle.std.specs.Prelude.{◌≡◌, ◌≢◌, ◌⊎◌, ℕ, ◌+◌, ◌<◌, true, [], ◌∷◌, ◌++◌, length, drop, map, slice_index, slice_set, Option}
use mathlib.Core.Option.{some}
use lib.ListN.{get_elem?}
use Rattle.atomic_table.specs.Table.{State}
use Rattle.rs_core.specs.Configurations.{Configuration, IsReachable}
use Rattle.rs_core.specs.Histories.{IsLegal}
use Rattle.rs_slots.specs.Places.{IsPair}
use Rattle.rs_slots.specs.declared.parcels.Parcel.{Parcel}
use Rattle.rs_rings.specs.Acts.{message_of, parcels_sent, parcels_got, MayPut, MayTake}
use Rattle.rs_rings.specs.Places.{head_word_of, tail_of}
use Rattle.rs_rings.specs.Rule.{RingRule, ring_facts, machines_in_key}
use Rattle.rs_rings.specs.Views.{speaks, the_part, view_with_part, part_with_room, gaining}
use Rattle.rs_rings.specs.Views.{sending, part_with_parcel, taking, getting, view_without_role, alone, joint_view, spent_view}
use Rattle.rs_rings.specs.declared.views.Key.{Key}
use Rattle.rs_rings.specs.declared.views.Middle.TheVariants.{Putting, Taking}
use Rattle.rs_rings.specs.declared.views.Part.{Part}
use Rattle.rs_rings.specs.declared.views.View.{View}

-- a table in the state s shows the configuration c: each role is spoken for by one view, its state in c is the one that the
-- view knows, in each queue is what was sent and not got, each ring is as its rule says, and the histories are legal and lead to c
pub record Shown (key : Key) (s : State (Option Parcel) View) (c : Configuration) : Type 0 where
  pub known : ℕ → Part
  pub spoken : (r : ℕ) → r < key.roles → (j : ℕ) × (v : View) × (get_elem? s.views j ≡ some v) × (speaks r v.parts ≡ true) × (the_part r v.parts ≡ known r)
      × ((i : ℕ) (w : View) → get_elem? s.views i ≡ some w → speaks r w.parts ≡ true → i ≡ j)
  pub states : (r : ℕ) → c.at r ≡ (known r).state
  pub queues : (p q : ℕ) → c.queue p q ≡ map message_of (drop (length (parcels_got p (known q).history)) (parcels_sent q (known p).history))
  pub rings : (p q : ℕ) → IsPair key.roles p q → RingRule key.capacity (ring_facts key.roles key.capacity s.words s.homes p q (known p) (known q))
  pub legal : IsLegal (machines_in_key key) (λ r. (known r).history) c
  pub reachable : IsReachable (machines_in_key key) c

-- the same for the roles that there are
pub record IsSameAmong (roles : ℕ) (c d : Configuration) : Type 0 where
  pub at : (r : ℕ) → r < roles → c.at r ≡ d.at r
  pub queue : (p q : ℕ) → p < roles → q < roles → c.queue p q ≡ d.queue p q

-- a seat that speaks for role r, of which it knew a, makes one step from s to t: it leaves the number `new` in the word, and
-- knows y of r behind it. All other words and all that all seats else know stay.
pub record Moves (s t : State (Option Parcel) View) (r word new : ℕ) (a y : Part) : Type 0 where
  pub seat : ℕ
  pub view : View
  pub present : get_elem? s.views seat ≡ some view
  pub speaks : speaks r view.parts ≡ true
  pub knew : the_part r view.parts ≡ a
  pub words : t.words ≡ slice_set s.words word new
  pub views : t.views ≡ slice_set s.views seat (view_with_part r y view)

-- the six kinds of step. The sender p loads the head word of its ring to q, and finds the ring full or gains a slot
pub record LoadsHeadOf (key : Key) (s t : State (Option Parcel) View) (p q : ℕ) : Type 0 where
  pub knew : Part
  pub knows : Part
  pub looks : (knows ≡ part_with_room q (slice_index s.words (head_word_of key.roles p q)) knew) ⊎ (knows ≡ gaining q (slice_index s.words (head_word_of key.roles p q)) knew)
  pub moves : Moves s t p (head_word_of key.roles p q) (slice_index s.words (head_word_of key.roles p q)) knew knows

-- p, in the middle of a put to q, stores the tail word, which is one more than before
pub record StoresTailOf (key : Key) (s t : State (Option Parcel) View) (p q : ℕ) (x : Parcel) : Type 0 where
  pub knew : Part
  pub next : ℕ
  pub loads : ℕ
  pub middle : knew.middle ≡ Putting q
  pub may : MayPut (machines_in_key key) p q knew.state x next
  pub moves : Moves s t p (tail_of key.roles p q) (slice_index s.words (tail_of key.roles p q) + 1) knew (sending q x next loads knew)

-- the receiver q loads the tail word of the ring from p, and finds the ring empty or gains the slot of the oldest parcel
pub record LoadsTailOf (key : Key) (s t : State (Option Parcel) View) (p q : ℕ) : Type 0 where
  pub knew : Part
  pub knows : Part
  pub looks : (knows ≡ part_with_parcel p (slice_index s.words (tail_of key.roles p q)) knew) ⊎ ((x : Parcel) × (knows ≡ taking p x (slice_index s.words (tail_of key.roles p q)) knew))
  pub moves : Moves s t q (tail_of key.roles p q) (slice_index s.words (tail_of key.roles p q)) knew knows

-- q, in the middle of a take from p, stores the head word, which is one more than before
pub record StoresHeadOf (key : Key) (s t : State (Option Parcel) View) (p q : ℕ) (x : Parcel) : Type 0 where
  pub knew : Part
  pub next : ℕ
  pub loads : ℕ
  pub middle : knew.middle ≡ Taking p x
  pub may : MayTake (machines_in_key key) q p knew.state x next
  pub moves : Moves s t q (head_word_of key.roles p q) (slice_index s.words (head_word_of key.roles p q) + 1) knew (getting p x next loads knew)

-- a view gives up role r to a new view; a view takes in another, which is spent. Words and slots stay.
pub record SplitsOff (s t : State (Option Parcel) View) (r : ℕ) : Type 0 where
  pub seat : ℕ
  pub view : View
  pub present : get_elem? s.views seat ≡ some view
  pub speaks : speaks r view.parts ≡ true
  pub words : t.words ≡ s.words
  pub views : t.views ≡ slice_set s.views seat (view_without_role r view) ++ alone r view ∷ []

-- a view takes in another, which then speaks for no role
pub record JoinsIn (s t : State (Option Parcel) View) : Type 0 where
  pub seat : ℕ
  pub view : View
  pub other : ℕ
  pub taken : View
  pub present : get_elem? s.views seat ≡ some view
  pub too : get_elem? s.views other ≡ some taken
  pub apart : other ≢ seat
  pub words : t.words ≡ s.words
  pub views : t.views ≡ slice_set (slice_set s.views seat (joint_view view taken)) other spent_view
