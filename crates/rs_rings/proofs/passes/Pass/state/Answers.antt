use Rattle.std.proofs.Common.{◌≡◌, ℕ, true, ap, ◌∙◌}
use Rattle.rs_rings.specs.Views.{speaks, state_in}
use Rattle.rs_rings.proofs.passes.Pass.state.Goals as goal

pub state-requires : goal.state-requires
state-requires c =
    let r : ℕ = c.args.role.0 in
    let says : speaks r c.self.inside.seat.me.0.parts ≡ true = ap (λ z. speaks r z.view.parts) c.self.view_is ∙ c.requires.speaks in
    let t = c.self.invariant.rows r says in
    record { present = c.self.invariant.bounded r says; row = (t.0, t.1) }

pub returns : goal.returns
returns c =
    let r : ℕ = c.args.role.0 in
    let says : speaks r c.self.inside.seat.me.0.parts ≡ true = ap (λ z. speaks r z.view.parts) c.self.view_is ∙ c.requires.speaks in
    let t = c.self.invariant.rows r says in
    record { state = c.state.ensures t.0 t.1 ∙ t.2.state ∙ ap (λ z. state_in z.view r) c.self.view_is }
