use Rattle.rs_documents.proofs.OneDocument.{no_fault}
use Rattle.rs_documents.proofs.laws.spelt_text_has_no_fault.Goals as goal

pub returns : goal.returns
returns c = no_fault
