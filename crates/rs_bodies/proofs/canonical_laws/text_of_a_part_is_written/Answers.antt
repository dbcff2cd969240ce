use Rattle.rs_bodies.proofs.PrintedTrees.{part_written}
use Rattle.rs_bodies.proofs.canonical_laws.text_of_a_part_is_written.Goals as goal

pub returns : goal.returns
returns c = part_written
