use Rattle.rs_documents.proofs.OneCanonical.{some_text}
use Rattle.rs_documents.proofs.laws.canonical_text_is_there.Goals as goal

pub returns : goal.returns
returns c = some_text
