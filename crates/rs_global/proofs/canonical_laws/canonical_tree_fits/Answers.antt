use Rattle.rs_global.proofs.Canonical.{written}
use Rattle.rs_global.proofs.canonical_laws.canonical_tree_fits.Goals as goal

pub returns : goal.returns
returns c = λ names protocol tree shaped sound enough canonical. (written names protocol tree shaped sound enough canonical).fits
