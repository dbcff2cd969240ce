use Rattle.rs_bodies.proofs.PrintedTrees.{part_written}
use Rattle.rs_bodies.specs.declared.dialects.Dialect.TheVariants.{Acts}
use Rattle.rs_machines.proofs.printing_laws.text_of_a_tree_is_written.Goals as goal

pub returns : goal.returns
returns c = part_written Acts
