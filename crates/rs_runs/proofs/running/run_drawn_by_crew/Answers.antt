use Rattle.rs_runs.proofs.Told.{told_by_crew}
use Rattle.rs_runs.proofs.running.run_drawn_by_crew.Goals as goal

pub returns : goal.returns
returns g c =
    told_by_crew c.args.ready c.requires.0 c.in_ok-ran.ran.closed c.in_ok-ran.ran.run.outcome c.in_ok-ran.ran.run.actors.items c.in_ok-ran.ensures.session c.args.crew c.finish_run.result
    c.in_ok-ran.ensures.plain
    c.finish_run.ensures.answer c.finish_run.ensures.closed
