use Rattle.rs_documents.proofs.Again.{as_itself}
use Rattle.rs_documents.proofs.laws.canonical_text_is_printed_as_itself.Goals as goal

pub returns : goal.returns
returns c = as_itself
