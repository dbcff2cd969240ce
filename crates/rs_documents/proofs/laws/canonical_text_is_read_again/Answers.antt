use Rattle.rs_documents.proofs.Again.{read_again}
use Rattle.rs_documents.proofs.laws.canonical_text_is_read_again.Goals as goal

pub returns : goal.returns
returns c = read_again
