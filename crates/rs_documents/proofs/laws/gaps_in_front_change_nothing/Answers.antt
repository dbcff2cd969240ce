use Rattle.rs_documents.proofs.GapsInFront.{gap_in_front}
use Rattle.rs_documents.proofs.laws.gaps_in_front_change_nothing.Goals as goal

pub returns : goal.returns
returns c = gap_in_front
