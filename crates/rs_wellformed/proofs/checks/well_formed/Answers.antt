use Rattle.std.proofs.Common.{sym, ◌∙◌}
use Rattle.rs_wellformed.proofs.Faults.{no_fault}
use Rattle.rs_wellformed.proofs.Order.{in_order}
use Rattle.rs_wellformed.proofs.checks.well_formed.Goals as goal

pub returns-in-Some-clause-err : goal.returns-in-Some-clause-err
returns-in-Some-clause-err c = sym (in_order c.args.protocol.now) ∙ sym c.protocol_fault.ensures ∙ c.in-Some.is

pub returns-in-None-clause-none : goal.returns-in-None-clause-none
returns-in-None-clause-none c = sym (in_order c.args.protocol.now) ∙ sym c.protocol_fault.ensures ∙ c.in-None.is

pub returns-in-None-clause-ok : goal.returns-in-None-clause-ok
returns-in-None-clause-ok c = no_fault c.args.protocol.now (returns-in-None-clause-none c)
