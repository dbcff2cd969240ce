use Rattle.std.proofs.Common.{rules, subst}
use Rattle.rs_core.specs.declared.messages.Event.{Event}
use Rattle.rs_core.specs.Configurations.{Step}
use Rattle.rs_core.specs.Core.{StepIsRefused, configuration_of}
use Rattle.rs_alive.proofs.Acting.{can_move, has_act, is_step, memory}
use Rattle.rs_alive.proofs.schedule.advance.Goals as goal

pub act_of-requires-clause-acts : goal.act_of-requires-clause-acts
act_of-requires-clause-acts c =
    has_act c.args.core.now.machines (configuration_of c.args.core.now) (search rules) c.last_of-role.result
    (can_move c.args.core.now.machines (configuration_of c.args.core.now) c.args.receiver.0 c.last_of-role.result.0 c.requires.leads c.last_of-role.ensures.leads)

pub only_memory-requires : goal.only_memory-requires
only_memory-requires c =
    let P : Event → Type 0 = λ z. StepIsRefused c.args.core.now.machines (configuration_of c.args.core.now) z c.in-Err.refused.fault in
    memory c.args.core.now.machines (configuration_of c.args.core.now) c.last_of-role.result c.in_ok-event.event c.in-Err.refused.fault
    (can_move c.args.core.now.machines (configuration_of c.args.core.now) c.args.receiver.0 c.last_of-role.result.0 c.requires.leads c.last_of-role.ensures.leads)
    (search rules) (subst P c.in_ok-copy_of.ensures c.in-Err.ensures.refused)

pub returns-in-Ok-clause-advances : goal.returns-in-Ok-clause-advances
returns-in-Ok-clause-advances c =
    let P : Event → Type 0 = λ z. Step c.args.core.now.machines (configuration_of c.args.core.now) z (configuration_of c.step.new.self) in
    record {
      role = c.last_of-role.result;
      leads = c.last_of-role.ensures.leads;
      acts = search rules;
      step = subst P c.in_ok-copy_of.ensures
          (is_step c.args.core.now.machines (configuration_of c.args.core.now) (configuration_of c.step.new.self) c.in_ok-copy_of.field-0 c.in-Ok.field-0 c.in-Ok.ensures.step);
      tells = search rules;
    }
