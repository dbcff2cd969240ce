use Rattle.rs_exec.proofs.Waiting.{empty_peer, full_peer}
use Rattle.rs_exec.proofs.laws.who_waits_tells_for_whom.Goals as goal

pub returns-clause-full : goal.returns-clause-full
returns-clause-full g c session old new peer sent taken tells = full_peer g.A.Actor.behaviour session old new peer sent taken tells.1

pub returns-clause-empty : goal.returns-clause-empty
returns-clause-empty g c session old new peer seen tells = empty_peer g.A.Actor.behaviour session old new peer seen tells.1
