-- Public: what is left of rings.
use Rattle.std.specs.Prelude.{◌≡◌, ◌≢◌, ℕ, zero, suc, ◌+◌, ◌-◌, ◌/◌, ◌%◌, ◌<◌, nat_lt, if◌then◌else◌, List, [], ◌++◌, map, length}
use Rattle.rs_model.specs.Data.{Machine_data}
use Rattle.rs_core.specs.Configurations.{Configuration}
use Rattle.rs_core.specs.Histories.{IsLegal}
use Rattle.rs_core.specs.Safety.{AllEnded}
use Rattle.rs_slots.specs.declared.parcels.Parcel.{Parcel}
use Rattle.rs_rings.specs.Acts.{role_of_number, message_of, parcels_sent, parcels_got}
use Rattle.rs_rings.specs.Views.{state_in, history_in, parcels_under_way}
use Rattle.rs_rings.specs.declared.loose.Loose.{Loose}
use Rattle.rs_rings.specs.declared.views.View.{View}

-- what contracts see: the machines that the rings were made with, how many parcels each ring held at most, and what the last
-- pass knew
pub record Closed_data : Type 0 where
  pub machines : List Machine_data
  pub capacity : ℕ
  pub last : View

-- what was closed had these machines and rings of this capacity, and its last pass knew this
pub record IsClosedAs (c : Closed_data) (machines : List Machine_data) (capacity : ℕ) (v : View) : Type 0 where
  pub machines_are : c.machines ≡ machines
  pub capacity_is : c.capacity ≡ capacity
  pub last_is : c.last ≡ v

-- the histories are legal, and lead to a configuration in which each role stands in the state that the pass knew, and in
-- each queue is what was sent and not got
pub record IsLeft (c : Closed_data) : Type 0 where
  pub end : Configuration
  pub legal : IsLegal c.machines (history_in c.last) end
  pub states : (r : ℕ) → r < length c.machines → end.at r ≡ state_in c.last r
  pub queues : (p q : ℕ) → p < length c.machines → q < length c.machines → p ≢ q
      → (parcels_sent q (history_in c.last p) ≡ parcels_got p (history_in c.last q) ++ parcels_under_way c.last p q) × (end.queue p q ≡ map message_of (parcels_under_way c.last p q))

-- the histories are legal, and lead to a configuration in which all have ended and all queues are empty; and what each role
-- has sent to another is what the other has got, in order
pub record IsOver (c : Closed_data) : Type 0 where
  pub end : Configuration
  pub legal : IsLegal c.machines (history_in c.last) end
  pub ended : AllEnded c.machines end
  pub same : (p q : ℕ) → p < length c.machines → q < length c.machines → p ≢ q → parcels_sent q (history_in c.last p) ≡ parcels_got p (history_in c.last q)

-- the sender and the receiver of the ring with that number
abbrev pub sender_of : ℕ → ℕ → ℕ
sender_of roles ring = ring / (roles - 1)

-- the receiver of the ring with that number
abbrev pub receiver_of : ℕ → ℕ → ℕ
receiver_of roles ring = if nat_lt (ring % (roles - 1)) (sender_of roles ring) then ring % (roles - 1) else ring % (roles - 1) + 1

-- the parcel, left in the ring from p to q
abbrev pub loose_from : ℕ → ℕ → Parcel → Loose
loose_from p q x = record { sender = role_of_number p; receiver = role_of_number q; parcel = x }

-- what is left in the first so many rings, each ring's oldest parcel first; rings are ordered by sender, and then by
-- receiver
abbrev pub loose_in : View → ℕ → ℕ → List Loose
loose_in v roles zero = []
loose_in v roles (suc i) = loose_in v roles i ++ map (loose_from (sender_of roles i) (receiver_of roles i)) (parcels_under_way v (sender_of roles i) (receiver_of roles i))
