-- Public: what the reader of tables gives.
use Rattle.std.specs.Prelude.{ℕ, ◌≤◌, List, length}
use Rattle.rs_model.specs.Data.{Machine_data, Names_data}
use Rattle.rs_model.specs.declared.limits.TheConstants.{MOST_STATES}
use Rattle.rs_tables.specs.Spells.{SpellsTable}

-- the bytes spell it, with no more states than a projection may have, up to an offset within them
pub record IsTableRead (bytes : List ℕ) (at : ℕ) (old new : Names_data) (machine : Machine_data) (until : ℕ) : Type 0 where
  pub spells : SpellsTable bytes at old new machine until
  pub bounded : length machine.states ≤ MOST_STATES
  pub within : until ≤ length bytes
