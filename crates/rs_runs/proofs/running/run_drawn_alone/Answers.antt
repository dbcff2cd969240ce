use Rattle.std.proofs.Common.{subst}
use Rattle.rs_core.specs.Draws.{by_draws}
use Rattle.rs_core.specs.Runs.{FaultTells}
use Rattle.rs_core.specs.declared.runs.RunFault.{RunFault}
use Rattle.rs_runs.proofs.Told.{told_alone, told_full}
use Rattle.rs_runs.proofs.running.run_drawn_alone.Goals as goal

pub returns-in-Ok : goal.returns-in-Ok
returns-in-Ok c =
    told_alone c.args.ready c.requires c.in-Ok.ran.closed c.in-Ok.ran.run.outcome c.in-Ok.ran.run.actors.items c.in-Ok.ensures.closed c.messages.result c.finish_run.result
    c.messages.ensures.messages c.in-Ok.ensures.plain
    c.finish_run.ensures.answer c.finish_run.ensures.closed

pub returns-in-Err-Full : goal.returns-in-Err-Full
returns-in-Err-Full c =
    told_full c.args.ready c.messages.result c.in-Err-Full.sender c.in-Err-Full.receiver c.in-Err-Full.sent c.in-Err-Full.taken c.full_answer.result c.alone.result c.messages.ensures.messages
    (λ given here. subst (λ (e : RunFault). FaultTells c.args.ready.session.machines by_draws given c.args.ready.limit c.messages.result e) c.in-Err-Full.field-0-is
    (c.in-Err-Full.ensures.full given here))
    c.alone.ensures c.full_answer.ensures
