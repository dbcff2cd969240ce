use Rattle.rs_answers.proofs.Improvements.{both_fine, both_refuse}
use Rattle.rs_answers.proofs.laws.improve_refuses_as_check_does.Goals as goal

pub returns-clause-fine : goal.returns-clause-fine
returns-clause-fine c = both_fine

pub returns-clause-refused : goal.returns-clause-refused
returns-clause-refused c = both_refuse
