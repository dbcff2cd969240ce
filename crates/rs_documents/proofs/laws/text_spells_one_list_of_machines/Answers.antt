use Rattle.rs_documents.proofs.Spelt.{one_session}
use Rattle.rs_documents.proofs.laws.text_spells_one_list_of_machines.Goals as goal

pub returns : goal.returns
returns c = one_session
