use Rattle.rs_machines.proofs.Canonical as proof
use Rattle.rs_machines.proofs.canonical_laws.canonical_machine_is_there.Goals as goal

pub returns : goal.returns
returns c = proof.canonical_text_is_there
