-- Public: what contracts see of what a walk is told from.
use Rattle.std.specs.Prelude.{List}
use Rattle.rs_model.specs.Data.{Machine_data, Names_data, Protocol_data}
use Rattle.rs_places.specs.declared.places.Position.{Position}
use Rattle.rs_project.specs.Data.{Projection_data}

-- names, a protocol and where its talks stand; a role's projection; the role's machine and where its states stand
pub record WalkSource_data : Type 0 where
  pub names : Names_data
  pub protocol : Protocol_data
  pub talks : List Position
  pub projection : Projection_data
  pub machine : Machine_data
  pub states : List Position
