use Rattle.rs_documents.proofs.Again.{own_stay}
use Rattle.rs_documents.proofs.laws.own_labels_renumber_nothing.Goals as goal

pub returns : goal.returns
returns c = own_stay
