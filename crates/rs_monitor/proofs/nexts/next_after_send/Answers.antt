use Rattle.std.proofs.Common.{Some}
use Rattle.rs_core.specs.Configurations.{state_of}
use Rattle.rs_monitor.specs.Acts.{Sent}
use Rattle.rs_monitor.proofs.Refusing.{told_act, told_refusal}
use Rattle.rs_monitor.proofs.nexts.next_after_send.Goals as goal

pub returns-clause-is_act : goal.returns-clause-is_act
returns-clause-is_act c =
    told_act (state_of (Some c.args.machine.now) c.args.at) (Sent c.args.peer (record { label = c.args.label; value = c.args.value.now })) c.send_leads.result c.send_leads.ensures

pub returns-clause-refused : goal.returns-clause-refused
returns-clause-refused c =
    told_refusal (state_of (Some c.args.machine.now) c.args.at) (Sent c.args.peer (record { label = c.args.label; value = c.args.value.now })) c.send_leads.result c.send_leads.ensures
