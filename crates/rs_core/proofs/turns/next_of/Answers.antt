use Rattle.std.proofs.Common.{rules, ◌≡◌, ◌∙◌, List, Some, ap, sym}
use Rattle.rs_model.specs.declared.graph.Arm.{Arm}
use Rattle.rs_model.specs.declared.machines.State.{State}
use Rattle.rs_model.specs.declared.machines.State.TheVariants.{Puts}
use Rattle.rs_core.specs.Configurations.{state_at}
use Rattle.rs_core.specs.Core.{configuration_of}
use Rattle.rs_core.proofs.Turning.{in_range, offering}
use Rattle.rs_core.proofs.turns.next_of.Goals as goal

pub bounds-arms-place : goal.bounds-arms-place
bounds-arms-place g c =
    let puts : state_at (g.Q.Queues.core c.args.queues.now).machines (configuration_of (g.Q.Queues.core c.args.queues.now)) c.args.role.0 ≡ Some (Puts c.in-Puts.peer c.as_slice-arms.result.now) =
    c.here.ensures.state ∙ ap (λ (z : State). Some z) (c.in-Puts.is ∙ ap (λ (z : List Arm). Puts c.in-Puts.peer z) (sym c.as_slice-arms.ensures)) in
    in_range g.A.Actor.behaviour (g.Q.Queues.core c.args.queues.now)
    c.args.role.0 c.args.player.now c.in-Puts.peer c.as_slice-arms.result.now c.in_ok-place-in-Puts.place c.in_ok-place-in-Puts.value c.offer.new.self.actor
    g.met.A.Actor.chooses_well c.here.ensures.well_formed c.requires.keeps puts c.in_ok-place-in-Puts.ensures.offers

pub returns-in_ok-place-in-Puts : goal.returns-in_ok-place-in-Puts
returns-in_ok-place-in-Puts g c =
    let puts : state_at (g.Q.Queues.core c.args.queues.now).machines (configuration_of (g.Q.Queues.core c.args.queues.now)) c.args.role.0 ≡ Some (Puts c.in-Puts.peer c.as_slice-arms.result.now) =
    c.here.ensures.state ∙ ap (λ (z : State). Some z) (c.in-Puts.is ∙ ap (λ (z : List Arm). Puts c.in-Puts.peer z) (sym c.as_slice-arms.ensures)) in
    record {
      tells = (
        search rules,
        offering g.A.Actor.behaviour (g.Q.Queues.core c.args.queues.now)
            c.args.role.0 c.args.player.now c.offer.new.self c.in-Puts.peer c.as_slice-arms.result.now c.in_ok-place-in-Puts.place c.in_ok-place-in-Puts.value _
            g.met.A.Actor.chooses_well c.here.ensures.well_formed c.requires.keeps puts c.in_ok-place-in-Puts.ensures.offers c.in_ok-place-in-Puts.ensures.kept c.in_ok-place-in-Puts.ensures.transcript,
      );
    }
