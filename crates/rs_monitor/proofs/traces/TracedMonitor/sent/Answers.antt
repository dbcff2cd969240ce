use Rattle.std.proofs.Common.{◌∙◌, ap, sym}
use Rattle.rs_monitor.specs.Traces.{TracedMonitor_data}
use Rattle.rs_monitor.specs.Acts.{Sent}
use Rattle.rs_monitor.proofs.Making.{by_memory}
use Rattle.rs_monitor.proofs.traces.TracedMonitor.sent.Goals as goal

pub returns-in_err-copy-clause-refused : goal.returns-in_err-copy-clause-refused
returns-in_err-copy-clause-refused c =
    by_memory c.from_residual-in_err-copy.result (Sent c.args.peer (record { label = c.args.label; value = c.args.value.now })) c.in_ok-next.next c.machine.result.now c.args.self.now.monitor.machine
    c.state_number.result c.args.self.now.monitor.at (c.machine.ensures ∙ ap (λ (z : TracedMonitor_data). z.monitor.machine) c.self.view_is) (c.state_number.ensures ∙ ap (λ (z : TracedMonitor_data). z.monitor.at) c.self.view_is) c.from_residual-in_err-copy.ensures.1 c.in_ok-next.ensures.is_act
