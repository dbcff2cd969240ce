use Rattle.rs_global.proofs.Canonical as proof
use Rattle.rs_global.proofs.canonical_laws.canonical_is_there.Goals as goal

pub returns : goal.returns
returns c = proof.canonical_is_there
