-- Public: what contracts see of a mapper.
use Rattle.std.specs.Prelude.{List}
use Rattle.rs_model.specs.declared.values.Value.{Value}

-- the function by which it maps, and the images that it has still to send
pub record Mapper_data (F : Type 0) : Type 0 where
  pub function : F
  pub images : List Value
