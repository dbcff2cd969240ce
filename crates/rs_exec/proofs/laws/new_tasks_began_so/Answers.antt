use Rattle.rs_exec.proofs.Stayed.{began_so}
use Rattle.rs_exec.proofs.laws.new_tasks_began_so.Goals as goal

pub returns : goal.returns
returns g c = began_so g.A.Actor.behaviour
