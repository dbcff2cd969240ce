-- Steps: what contracts see of the reader.
use Rattle.std.specs.Prelude.{ℕ, List}
use Rattle.rs_model.specs.declared.graph.Arm.{Arm}
use Rattle.rs_model.specs.declared.graph.Role.{Role}
use Rattle.rs_model.specs.declared.machines.State.{State}
use Rattle.rs_tables.specs.declared.reading.Mode.{Mode}

-- how far a reader has come: the names, the role, the states of the rows before, the arms of the row, and the place
pub record Reader_data : Type 0 where
  pub roles : List (List ℕ)
  pub labels : List (List ℕ)
  pub role : Role
  pub states : List State
  pub arms : List Arm
  pub mode : Mode
