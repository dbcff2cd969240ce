use Rattle.rs_global.proofs.Canonical as proof
use Rattle.rs_global.proofs.canonical_laws.printed_text_is_printed_again.Goals as goal

pub returns : goal.returns
returns c = proof.printed_text_is_printed_again
