-- Public: what contracts see of a sink that keeps all bytes.
use Rattle.std.specs.Prelude.{ℕ, List}

-- the bytes that were written, and how often memory for some was refused
pub record Kept_data : Type 0 where
  pub written : List ℕ
  pub faults : ℕ
