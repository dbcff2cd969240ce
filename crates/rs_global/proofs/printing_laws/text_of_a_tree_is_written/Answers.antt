use Rattle.rs_bodies.proofs.PrintedTrees.{part_written}
use Rattle.rs_bodies.specs.declared.dialects.Dialect.TheVariants.{Talks}
use Rattle.rs_global.proofs.printing_laws.text_of_a_tree_is_written.Goals as goal

pub returns : goal.returns
returns c = part_written Talks
