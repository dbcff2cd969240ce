-- Public: a text and its tree, to read the definitions by.
use Rattle.std.specs.Prelude.{ℕ, List, [], ◌∷◌, codes, Some, None}
use Rattle.rs_model.specs.Data.{Names_data}
use Rattle.rs_model.specs.declared.values.Sort.TheVariants as sort
use Rattle.rs_bodies.specs.declared.dialects.Mark.TheVariants as mark
use Rattle.rs_machines.specs.Trees.{MachineTree}
use Rattle.rs_bodies.specs.Trees.{binds, offers, more, one, again, ends}
use Rattle.rs_bodies.specs.Dialects.{with_mark}
use Rattle.rs_bodies.specs.Openings.{of_role}

-- a text in which an act is gone back to
abbrev pub text : List ℕ
text = codes "machine A: rec X. B!{x(). X, y(nat). end}"

-- the names that are there before
abbrev pub old : Names_data
old = record { roles = codes "A" ∷ codes "B" ∷ []; labels = codes "y" ∷ [] }

-- its tree
abbrev pub tree : MachineTree
tree = record {
  opening = of_role (codes "A");
  body = binds (codes "X") (offers (codes "B") (with_mark mark.Puts) (more (codes "x") None (again (codes "X")) (one (codes "y") (Some sort.Natural) ends)));
}
