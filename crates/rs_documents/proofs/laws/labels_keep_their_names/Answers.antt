use Rattle.rs_documents.proofs.OwnLabels.{behind_named, first_named}
use Rattle.rs_documents.proofs.laws.labels_keep_their_names.Goals as goal

pub returns-clause-protocol : goal.returns-clause-protocol
returns-clause-protocol c = first_named

pub returns-clause-behind : goal.returns-clause-behind
returns-clause-behind c = behind_named
