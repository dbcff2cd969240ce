use Rattle.rs_documents.proofs.OneDocument.{one_document}
use Rattle.rs_documents.proofs.laws.text_spells_one_document.Goals as goal

pub returns : goal.returns
returns c = one_document
