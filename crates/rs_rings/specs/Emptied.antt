-- Steps: slots that are emptied at the end.
use Rattle.std.specs.Prelude.{◌≡◌, ◌⊎◌, ℕ, zero, suc, ◌+◌, ◌*◌, ◌%◌, ◌<◌, ◌≤◌, Bool, false, true, List, [], ◌∷◌, ◌++◌, length, slice_index_or, slice_get, Option, Some, None}
use mathlib.Core.Option.{some, none}
use mathlib.Core.Option as maybe
use lib.ListN.{get_elem?}
use Rattle.std.specs.Global.{Box}
use Rattle.std.specs.Mem.Slots.Ownership.{Filled}
use Rattle.rs_model.specs.Limits.{IsCapacity}
use Rattle.rs_model.specs.declared.limits.TheConstants.{MOST_ROLES}
use Rattle.rs_slots.specs.Places.{ring_of, IsPair}
use Rattle.rs_slots.specs.declared.parcels.Parcel.{Parcel}
use Rattle.rs_rings.specs.Acts.{parcels_got}
use Rattle.rs_rings.specs.Closed.{loose_from}
use Rattle.rs_rings.specs.Rows.{IsBetweenCalls}
use Rattle.rs_rings.specs.Views.{history_in, parcels_under_way, speaks}
use Rattle.rs_rings.specs.declared.loose.Loose.{Loose}
use Rattle.rs_rings.specs.declared.rows.Row.{Row}
use Rattle.rs_rings.specs.declared.views.View.{View}

-- what is found in one slot of the ring from p to q
abbrev pub content_of : ℕ → ℕ → Option Parcel → List Loose
content_of p q None = []
content_of p q (Some x) = loose_from p q x ∷ []

-- what is found in a slot of the ring, where there is such a slot
abbrev pub loose_in_slot : ℕ → ℕ → maybe.Option (Option Parcel) → List Loose
loose_in_slot p q none = []
loose_in_slot p q (some content) = content_of p q content

-- what is found in m slots of the ring, beginning with the one at `from`
abbrev pub loose_in_slots : List (Option Parcel) → ℕ → ℕ → ℕ → ℕ → List Loose
loose_in_slots xs p q from zero = []
loose_in_slots xs p q from (suc m) = loose_in_slots xs p q from m ++ loose_in_slot p q (get_elem? xs (from + m))

-- the places from `low` up to `high` are empty, and no other has changed
pub record Emptied (old new : List Bool) (low high : ℕ) : Type 0 where
  pub inside : (k : ℕ) → low ≤ k → k < high → slice_index_or new k false ≡ false
  pub outside : (k : ℕ) → (k < low) ⊎ (high ≤ k) → slice_index_or new k false ≡ slice_index_or old k false

-- no other slots than these were emptied, and all stay that there were
pub record OnlyEmptied (items items' : List (Option Parcel)) (count count' : ℕ) (filled filled' : List Bool) (low high : ℕ) : Type 0 where
  pub emptied : Emptied filled filled' low high
  pub items_stay : items' ≡ items
  pub count_stays : count' ≡ count

-- no more room than this was taken
pub record TakesRoom (n count count' room room' : ℕ) : Type 0 where
  pub longer : count' ≤ count + n
  pub kept : room ≤ room'

-- so many slots there are, and all are filled
pub record AreFull (filled : List Bool) (count n : ℕ) : Type 0 where
  pub count_is : count ≡ n
  pub full : Filled filled 0 n

-- so many slots there are, and all are empty
pub record AreEmpty (filled : List Bool) (count n : ℕ) : Type 0 where
  pub count_is : count ≡ n
  pub empty : (k : ℕ) → k < n → slice_index_or filled k false ≡ false

-- the sizes that rings have
pub record AreSizes (roles capacity : ℕ) : Type 0 where
  pub some : 2 ≤ roles
  pub bounded : roles ≤ MOST_ROLES
  pub capacity_fits : IsCapacity capacity

-- the last view speaks for all roles, between two calls
pub record IsLastView (v : View) (rows : List (Option (Box Row))) (roles : ℕ) : Type 0 where
  pub speaks_for_all : (r : ℕ) → r < roles → speaks r v.parts ≡ true
  pub between : IsBetweenCalls (v, []) rows

-- a ring's slots, which begin at `base` and of which so many parcels were got, hold these parcels in turn, and else nothing
abbrev pub RingHolds : List (Option Parcel) → ℕ → ℕ → ℕ → List Parcel → Type 0
RingHolds xs capacity base got left = (length left ≤ capacity) × ((i : ℕ) → i < capacity → get_elem? xs (base + (got + i) % capacity) ≡ some (slice_get left i))

-- each ring's slots hold what is left in it
abbrev pub AllHold : List (Option Parcel) → ℕ → ℕ → View → Type 0
AllHold xs roles capacity v =
    (p q : ℕ) → IsPair roles p q → RingHolds xs capacity (ring_of roles p q * capacity) (length (parcels_got p (history_in v q))) (parcels_under_way v p q)
