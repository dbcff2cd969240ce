use Rattle.rs_session.proofs.HandedIn.{first_speaks_on, second_speaks_on}
use Rattle.rs_session.proofs.gathering.gather_into.Goals as goal

pub returns-clause-kept : goal.returns-clause-kept
returns-clause-kept c = λ r t. second_speaks_on c.gather-all.result.view c.args.pass.view c.join.new.pass.view r c.join.ensures.both t

pub returns-clause-speaks : goal.returns-clause-speaks
returns-clause-speaks c = λ r t. first_speaks_on c.gather-all.result.view c.args.pass.view c.join.new.pass.view r c.join.ensures.both (c.gather-all.ensures.speaks r t)
