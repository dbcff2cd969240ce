use Rattle.std.proofs.Common.{◌≡◌, ◌<◌, ◌∙◌, IsSome, length, subst, sym}
use Rattle.rs_core.specs.Core.{configuration_of}
use Rattle.rs_core.specs.Queues.{IsStanding}
use Rattle.rs_exec.specs.Hands.{Hand_data, core_of}
use Rattle.rs_exec.proofs.Together.{at_is, state_is}
use Rattle.rs_exec.proofs.hands.HandQueues.state.Goals as goal

pub returns-clause-state : goal.returns-clause-state
returns-clause-state c =
    let there : c.args.role.0 < length c.self.inside.session.machines = subst (λ (z : Hand_data). c.args.role.0 < length z.session.machines) (sym c.self.view_is) c.requires.present in
    subst (λ (z : Hand_data). c.state.result ≡ (configuration_of (core_of z.session.machines z.all.view)).at c.args.role.0) c.self.view_is
    (c.state.ensures.state ∙ sym (at_is c.self.inside.session.machines c.self.inside.all.view c.args.role.0 there))

pub returns-clause-standing : goal.returns-clause-standing
returns-clause-standing c =
    subst (λ (z : Hand_data). IsStanding (core_of z.session.machines z.all.view)) c.self.view_is record {
      well_formed = c.self.invariant.well_formed;
      somewhere = λ r low. subst IsSome (sym (state_is c.self.inside.session.machines c.self.inside.all.view r low)) (c.self.invariant.somewhere r low);
    }
