use Rattle.rs_documents.proofs.Again.{read_as_itself_by_protocol}
use Rattle.rs_documents.proofs.laws.labels_of_the_protocol_keep_their_numbers.Goals as goal

pub returns : goal.returns
returns c = read_as_itself_by_protocol
