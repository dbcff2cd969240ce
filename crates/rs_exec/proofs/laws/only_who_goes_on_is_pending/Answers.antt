use Rattle.rs_exec.proofs.Waiting.{goes_on_from}
use Rattle.rs_exec.proofs.laws.only_who_goes_on_is_pending.Goals as goal

pub returns-clause-ended : goal.returns-clause-ended
returns-clause-ended g c session old new is = (goes_on_from g.A.Actor.behaviour session old new is.tells.0 is.tells.1 is.tells.2).ended

pub returns-clause-below : goal.returns-clause-below
returns-clause-below g c session old new is = (goes_on_from g.A.Actor.behaviour session old new is.tells.0 is.tells.1 is.tells.2).below

pub returns-clause-unrefused : goal.returns-clause-unrefused
returns-clause-unrefused g c session old new is = (goes_on_from g.A.Actor.behaviour session old new is.tells.0 is.tells.1 is.tells.2).unrefused
