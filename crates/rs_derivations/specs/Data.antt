-- Steps: what contracts see of the reader.
use Rattle.std.specs.Prelude.{ℕ, List}
use Rattle.rs_model.specs.declared.graph.Role.{Role}
use Rattle.rs_model.specs.declared.machines.Act.{Act}
use Rattle.rs_derive.specs.Data.{DNode_data}
use Rattle.rs_derivations.specs.declared.formats.Format.{Format}
use Rattle.rs_derivations.specs.declared.reading.Mode.{Mode}

-- how far a reader has come: the names, the role, the format, the bound, the lists before, the acts as far as they are read, the nodes before, the node as far as it is read, and the place
pub record Reader_data : Type 0 where
  pub roles : List (List ℕ)
  pub labels : List (List ℕ)
  pub role : Role
  pub format : Format
  pub bound : ℕ
  pub lists : List (List Act)
  pub acts : List Act
  pub nodes : List DNode_data
  pub node : DNode_data
  pub mode : Mode
