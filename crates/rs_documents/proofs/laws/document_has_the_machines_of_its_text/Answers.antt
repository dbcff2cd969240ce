use Rattle.rs_documents.proofs.Spelt.{spelt_machines}
use Rattle.rs_documents.proofs.laws.document_has_the_machines_of_its_text.Goals as goal

pub returns : goal.returns
returns c = spelt_machines
