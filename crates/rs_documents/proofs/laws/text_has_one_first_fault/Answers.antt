use Rattle.rs_documents.proofs.OneDocument.{one_fault}
use Rattle.rs_documents.proofs.laws.text_has_one_first_fault.Goals as goal

pub returns : goal.returns
returns c = one_fault
