use Rattle.rs_machines.proofs.Canonical.{written}
use Rattle.rs_machines.proofs.canonical_laws.canonical_tree_fits.Goals as goal

pub returns : goal.returns
returns c = λ names machine tree shaped sound enough canonical. (written names machine tree shaped sound enough canonical).fits
