-- Public: a text and its tree, to read the definitions by.
use Rattle.std.specs.Prelude.{ℕ, List, [], codes, Some, None}
use Rattle.rs_model.specs.declared.values.Sort.TheVariants as sort
use Rattle.rs_global.specs.Trees.{ProtocolTree}
use Rattle.rs_bodies.specs.Dialects.{sends_to}
use Rattle.rs_bodies.specs.Openings.{of_roles}
use Rattle.rs_bodies.specs.Trees.{binds, offers, more, one, again, ends}

-- a text in which a talk is gone back to
abbrev pub text : List ℕ
text = codes "roles A,B protocol rec X. A->B{x(). X, y(nat). end}"

-- its tree
abbrev pub tree : ProtocolTree
tree = record {
  opening = of_roles (codes "A") (codes "B") [];
  body = binds (codes "X") (offers (codes "A") (sends_to (codes "B")) (more (codes "x") None (again (codes "X")) (one (codes "y") (Some sort.Natural) ends)));
}
