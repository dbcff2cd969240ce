-- Public: what a pass keeps at run time.
use Rattle.std.specs.Prelude.{◌≡◌, ℕ, ◌<◌, true, List, [], length, Option, Some, None, slice_get, slice_index_or, slice_set, replicate}
use Rattle.std.specs.Global.{Box}
use Rattle.rs_model.specs.declared.limits.TheConstants.{MOST_ROLES}
use Rattle.atomic_table.specs.Table.{Me}
use Rattle.rs_model.specs.Data.{Machine_data}
use Rattle.rs_slots.specs.declared.parcels.Parcel.{Parcel}
use Rattle.rs_rings.specs.Acts.{parcels_sent, parcels_got}
use Rattle.rs_rings.specs.Views.{speaks, the_part}
use Rattle.rs_rings.specs.declared.rows.Row.{Row}
use Rattle.rs_rings.specs.declared.views.Middle.TheVariants.{Idle}
use Rattle.rs_rings.specs.declared.views.Part.{Part}
use Rattle.rs_rings.specs.declared.views.View.{View}

-- the row of role i, where there is one
abbrev pub row_in_box : Option (Box Row) → Option Row
row_in_box None = None
row_in_box (Some b) = Some b.value

-- the row of role i among these, where there is one
abbrev pub row_at : List (Option (Box Row)) → ℕ → Option Row
row_at items i = row_in_box (slice_index_or items i None)

-- the row with the next state, and with the number of parcels sent to q, or got from p
abbrev pub with_sent_count : ℕ → ℕ → ℕ → Option Row → Option Row
with_sent_count q sent next None = None
with_sent_count q sent next (Some r) = Some (record { state = next; sent = slice_set r.sent q sent; got = r.got })

-- the row with the next state, and with the number of parcels got from p
abbrev pub with_got_count : ℕ → ℕ → ℕ → Option Row → Option Row
with_got_count p got next None = None
with_got_count p got next (Some r) = Some (record { state = next; sent = r.sent; got = slice_set r.got p got })

-- the row of a role at the start
abbrev pub new_row : ℕ → Row
new_row state = record { state = state; sent = replicate MOST_ROLES 0; got = replicate MOST_ROLES 0 }

-- the row of a role at the start, where it has that machine
abbrev pub row_at_start : Option Machine_data → Option Row
row_at_start None = None
row_at_start (Some m) = Some (new_row m.start)

-- the first row where there is one, else the other
abbrev pub either_row : Option Row → Option Row → Option Row
either_row None other = other
either_row (Some r) other = Some r

-- the row has the role's state, and how many parcels the role has sent to each other role and got from it
pub record RowShows (row : Row) (a : Part) : Type 0 where
  pub state : row.state ≡ a.state
  pub sent : (q : ℕ) → q < MOST_ROLES → slice_get row.sent q ≡ Some (length (parcels_sent q a.history))
  pub got : (p : ℕ) → p < MOST_ROLES → slice_get row.got p ≡ Some (length (parcels_got p a.history))

-- between calls a seat holds no slot, each role that it speaks for is in no middle and has a row, and there are no other
-- rows
pub record IsBetweenCalls (m : Me (Option Parcel) View) (items : List (Option (Box Row))) : Type 0 where
  pub empty : m.1 ≡ []
  pub bounded : (r : ℕ) → speaks r m.0.parts ≡ true → r < MOST_ROLES
  pub idle : (r : ℕ) → speaks r m.0.parts ≡ true → (the_part r m.0.parts).middle ≡ Idle
  pub rows : (r : ℕ) → speaks r m.0.parts ≡ true → (row : Row) × (row_at items r ≡ Some row) × RowShows row (the_part r m.0.parts)
  pub only : (r : ℕ) → r < MOST_ROLES → (row : Row) → row_at items r ≡ Some row → speaks r m.0.parts ≡ true
