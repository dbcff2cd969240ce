use Rattle.std.proofs.Common.{[], sym, ◌∙◌, subst}
use Rattle.rs_rings.specs.Rows.{IsBetweenCalls}
use Rattle.rs_rings.specs.Views.{joint_view}
use Rattle.rs_rings.specs.declared.views.View.{View}
use Rattle.rs_rings.proofs.PassRows.{M, kept_joined}
use Rattle.rs_rings.proofs.rings.Rings.join.Goals as goal

pub invariant_of-pass : goal.invariant_of-pass
invariant_of-pass c = let items = c.pass.inside.rows.items in let others = c.other.inside.rows.items in let v : View = c.pass.inside.seat.me.0 in let w : View = c.other.inside.seat.me.0 in
    let one : IsBetweenCalls (v, []) items = subst (λ (m : M). IsBetweenCalls m items) (λ i. (v, c.pass.invariant.empty i)) c.pass.invariant in
    let two : IsBetweenCalls (w, []) others = subst (λ (m : M). IsBetweenCalls m others) (λ i. (w, c.other.invariant.empty i)) c.other.invariant in
    subst (λ (m : M). IsBetweenCalls m c.join-2.new.self.items) (sym (c.join.ensures.both ∙ (λ i. (joint_view v w, c.pass.invariant.empty i))))
    (kept_joined v w items others c.join-2.new.self.items one two c.join-2.ensures)
