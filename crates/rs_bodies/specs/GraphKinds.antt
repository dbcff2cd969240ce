-- Public: the kinds of graphs that parts spell, protocols by the one dialect and machines by the other.
use Rattle.std.specs.Prelude.{ℕ, List}
use Rattle.rs_model.specs.Data.{Names_data}
use Rattle.rs_bodies.specs.declared.dialects.Dialect.{Dialect}
use Rattle.rs_bodies.specs.declared.places.Place.{Place}
use Rattle.rs_bodies.specs.Data.{Spelling_data}
use Rattle.rs_bodies.specs.Spells.{Tree}

-- a kind of graph: the graph that a tree spells, where these names were there; what the reader makes of what a part spells
-- and of the names behind it; and of a graph its places, the number with which it begins, and what its opening says, how
-- many roles there are or which role it belongs to
pub record GraphKind (d : Dialect) (G : Type 0) : Type 0 where
  pub graph_of : Names_data → Tree d → G
  pub made : Names_data → Spelling_data → G
  pub places : G → List Place
  pub root : G → ℕ
  pub own : G → ℕ
