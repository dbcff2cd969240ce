use Rattle.rs_demos.proofs.SpeltDocuments.{spelt_document}
use Rattle.rs_demos.proofs.laws.texts_of_demos_spell_their_documents.Goals as goal

pub returns : goal.returns
returns c = spelt_document
