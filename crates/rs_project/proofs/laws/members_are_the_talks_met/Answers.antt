use Rattle.rs_project.proofs.Histories.{members_are_met}
use Rattle.rs_project.proofs.laws.members_are_the_talks_met.Goals as goal

pub returns : goal.returns
returns c = members_are_met
