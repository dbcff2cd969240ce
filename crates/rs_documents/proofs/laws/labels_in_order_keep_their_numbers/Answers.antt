use Rattle.rs_documents.proofs.Again.{read_as_itself}
use Rattle.rs_documents.proofs.laws.labels_in_order_keep_their_numbers.Goals as goal

pub returns : goal.returns
returns c = read_as_itself
