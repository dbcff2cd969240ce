use Rattle.rs_runs.proofs.Told.{performed_by_crew}
use Rattle.rs_runs.proofs.running.perform_by_crew.Goals as goal

pub returns : goal.returns
returns g c =
    performed_by_crew c.args.kind c.args.ready c.requires.0 (rw c.session.view_is at c.session.invariant)
    c.in_ok-ran.ran.closed c.in_ok-ran.ran.run.outcome c.in_ok-ran.ran.run.actors.items c.in_ok-ran.ensures.session
    c.args.crew c.finish_demo.result c.requires.1 c.in_ok-ran.ensures.plain c.finish_demo.ensures.answer c.finish_demo.ensures.closed
