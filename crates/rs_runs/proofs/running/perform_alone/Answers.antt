use Rattle.rs_runs.proofs.Told.{performed_alone}
use Rattle.rs_runs.proofs.running.perform_alone.Goals as goal

pub returns-in-Ok : goal.returns-in-Ok
returns-in-Ok c =
    performed_alone c.args.kind c.args.ready c.requires (rw c.session.view_is at c.session.invariant) c.in-Ok.ran.closed c.in-Ok.ran.run.outcome c.in-Ok.ran.run.actors.items c.in-Ok.ensures.closed
    c.messages.result c.finish_demo.result c.messages.ensures.messages c.in-Ok.ensures.plain c.finish_demo.ensures.answer c.finish_demo.ensures.closed
