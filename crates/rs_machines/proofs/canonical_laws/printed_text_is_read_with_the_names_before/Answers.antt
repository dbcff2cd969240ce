use Rattle.rs_machines.proofs.Canonical as proof
use Rattle.rs_machines.proofs.canonical_laws.printed_text_is_read_with_the_names_before.Goals as goal

pub returns : goal.returns
returns c = proof.printed_text_is_read_with_the_names_before
