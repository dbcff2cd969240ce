-- Public: what the reader of machines gives.
use Rattle.std.specs.Prelude.{ℕ, ◌+◌, ◌≤◌, List, length}
use Rattle.rs_model.specs.Data.{Machine_data, Names_data}
use Rattle.rs_model.specs.declared.limits.TheConstants.{MOST_ACTS}
use Rattle.rs_machines.specs.Spells.{SpellsMachine}

-- the bytes spell it, with no more acts than there may be, up to an offset within them
pub record IsMachineRead (bytes : List ℕ) (at : ℕ) (old new : Names_data) (machine : Machine_data) (until : ℕ) : Type 0 where
  pub spells : SpellsMachine bytes at old new machine until
  pub bounded : length machine.states ≤ MOST_ACTS + 1
  pub within : until ≤ length bytes
