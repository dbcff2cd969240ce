-- Heads of arms in braces.
use Rattle.std.specs.Prelude.{ℕ, List}
use Rattle.rs_text.specs.Names.{BoundNames}
use Rattle.rs_bodies.specs.declared.dialects.Dialect.{Dialect}
use Rattle.rs_bodies.specs.Data.{Point_data}
use Rattle.rs_bodies.specs.Graph.{heads_in, Numbering}
use Rattle.rs_bodies.specs.Trees.{Branches}
use Rattle.rs_bodies.specs.Points.{point_of}

-- the heads of arms in braces, in order of text
abbrev pub points_of_arms : (d : Dialect) → Numbering → Branches d → BoundNames → ℕ → List Point_data
points_of_arms d n arms bound count = heads_in d (point_of d n) n arms bound count
