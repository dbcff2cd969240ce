use Rattle.rs_documents.proofs.SpeltAgain.{spelt_again}
use Rattle.rs_documents.proofs.laws.spelt_documents_can_be_read_again.Goals as goal

pub returns : goal.returns
returns c = spelt_again
