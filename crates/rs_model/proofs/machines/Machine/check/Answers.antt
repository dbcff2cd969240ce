use Rattle.std.proofs.Common.{sym, ◌∙◌}
use Rattle.rs_model.proofs.Faults.{no_fault}
use Rattle.rs_model.proofs.Order.{in_order}
use Rattle.rs_model.proofs.machines.Machine.check.Goals as goal

pub returns-in-Some-clause-err : goal.returns-in-Some-clause-err
returns-in-Some-clause-err c = sym (in_order c.args.self.now c.args.roles) ∙ sym c.fault.ensures ∙ c.in-Some.is

pub returns-in-None-clause-none : goal.returns-in-None-clause-none
returns-in-None-clause-none c = sym (in_order c.args.self.now c.args.roles) ∙ sym c.fault.ensures ∙ c.in-None.is

pub returns-in-None-clause-ok : goal.returns-in-None-clause-ok
returns-in-None-clause-ok c = no_fault c.args.self.now c.args.roles (returns-in-None-clause-none c)
