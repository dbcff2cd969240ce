-- Public: what contracts see of the places of a document.
use Rattle.std.specs.Prelude.{List}
use Rattle.rs_places.specs.declared.places.Position.{Position}

-- the talks in order, and for each role in order the states of its machine
pub record Places_data : Type 0 where
  pub talks : List Position
  pub machines : List (List Position)
