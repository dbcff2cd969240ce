-- Public: what a look tells of its own call.
use Rattle.std.specs.Prelude.{◌≡◌, ℕ, true, List, ◌++◌, Option}
use mathlib.Core.Option.{some}
use lib.ListN.{get_elem?}
use Rattle.atomic_table.specs.Table.{State}
use Rattle.rs_core.specs.Histories.{History}
use Rattle.rs_slots.specs.declared.parcels.Parcel.{Parcel}
use Rattle.rs_rings.specs.Views.{speaks, the_part}
use Rattle.rs_rings.specs.declared.views.Part.{Part}
use Rattle.rs_rings.specs.declared.views.Stamp.{Stamp}
use Rattle.rs_rings.specs.declared.views.View.{View}

-- some view speaks for role r, and knows a of it
pub record IsKnown (s : State (Option Parcel) View) (r : ℕ) (a : Part) : Type 0 where
  pub seat : ℕ
  pub view : View
  pub present : get_elem? s.views seat ≡ some view
  pub speaks_for : speaks r view.parts ≡ true
  pub knows : the_part r view.parts ≡ a

-- b is known of a role some acts and looks after a: all that it did and stamped before is there
pub record GoesOn (a b : Part) : Type 0 where
  pub acts : History
  pub puts : List Stamp
  pub takes : List Stamp
  pub history : b.history ≡ a.history ++ acts
  pub put_stamps : b.put_stamps ≡ a.put_stamps ++ puts
  pub take_stamps : b.take_stamps ≡ a.take_stamps ++ takes
