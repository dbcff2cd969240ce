use Rattle.rs_documents.proofs.OneCanonical.{one_text}
use Rattle.rs_documents.proofs.laws.canonical_text_is_one.Goals as goal

pub returns : goal.returns
returns c = one_text
