use Rattle.std.proofs.Common.{◌≡◌, ℕ, true, length, ap, sym, ◌∙◌}
use Rattle.std.proofs.lemmas.Option.{same_Some}
use Rattle.rs_rings.specs.Acts.{parcels_sent}
use Rattle.rs_rings.specs.Views.{speaks, history_in}
use Rattle.rs_rings.proofs.passes.Pass.sent.Goals as goal

pub counts-requires : goal.counts-requires
counts-requires c =
    let r : ℕ = c.args.role.0 in
    let says : speaks r c.self.inside.seat.me.0.parts ≡ true = ap (λ z. speaks r z.view.parts) c.self.view_is ∙ c.requires.speaks in
    let t = c.self.invariant.rows r says in
    record { present = (c.self.invariant.bounded r says, c.requires.peer); row = (t.0, t.1) }

pub returns : goal.returns
returns c =
    let r : ℕ = c.args.role.0 in
    let q : ℕ = c.args.peer.0 in
    let says : speaks r c.self.inside.seat.me.0.parts ≡ true = ap (λ z. speaks r z.view.parts) c.self.view_is ∙ c.requires.speaks in
    let t = c.self.invariant.rows r says in
    record { sent = same_Some _ _ (sym (c.counts.ensures t.0 t.1).1 ∙ t.2.sent q c.requires.peer) ∙ ap (λ z. length (parcels_sent q (history_in z.view r))) c.self.view_is }
