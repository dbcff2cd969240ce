use Rattle.rs_project.proofs.Histories.{end_is_met}
use Rattle.rs_project.proofs.laws.no_members_are_the_end.Goals as goal

pub returns : goal.returns
returns c = end_is_met
