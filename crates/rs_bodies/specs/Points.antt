-- Public: the heads that a body spells.
use Rattle.std.specs.Prelude.{ℕ, List}
use Rattle.rs_model.specs.declared.graph.Arm.{Arm}
use Rattle.rs_text.specs.Names.{BoundNames}
use Rattle.rs_bodies.specs.declared.dialects.Dialect.{Dialect}
use Rattle.rs_bodies.specs.declared.dialects.Dialect.TheVariants.{Talks, Acts}
use Rattle.rs_bodies.specs.declared.dialects.Head.{Head}
use Rattle.rs_bodies.specs.declared.dialects.Head.TheVariants as head
use Rattle.rs_bodies.specs.Data.{Point_data}
use Rattle.rs_bodies.specs.Dialects.{BehindRole, sends_to, with_mark}
use Rattle.rs_bodies.specs.Graph.{heads_of, Numbering, role_by_name}
use Rattle.rs_bodies.specs.Trees.{Body}

-- the head that these words and this turn stand for
abbrev pub head_of : (d : Dialect) → Numbering → List ℕ → BehindRole d → Head
head_of Talks n p (sends_to r) = head.Talk (role_by_name n p) (role_by_name n r)
head_of Acts n p (with_mark m) = head.Act (role_by_name n p) m

-- the head that these words and this turn stand for, with these arms
abbrev pub point_of : (d : Dialect) → Numbering → List ℕ → BehindRole d → List Arm → Point_data
point_of d n p t arms = record { head = head_of d n p t; arms = arms }

-- the heads of a body, in order of text
abbrev pub points_of : (d : Dialect) → Numbering → Body d → BoundNames → ℕ → List Point_data
points_of d n b bound count = heads_of d (point_of d n) n b bound count
