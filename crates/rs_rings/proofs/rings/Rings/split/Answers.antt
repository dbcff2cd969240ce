use Rattle.std.proofs.Common.{◌≡◌, ℕ, [], true, sym, ap, ◌∙◌, subst}
use Rattle.rs_rings.specs.Rows.{IsBetweenCalls}
use Rattle.rs_rings.specs.Views.{speaks, view_without_role}
use Rattle.rs_rings.specs.declared.views.View.{View}
use Rattle.rs_rings.proofs.PassRows.{M, kept_left, kept_alone}
use Rattle.rs_rings.proofs.rings.Rings.split.Goals as goal

pub invariant_of-pass : goal.invariant_of-pass
invariant_of-pass c = let items = c.pass.inside.rows.items in let v : View = c.pass.inside.seat.me.0 in let r : ℕ = c.args.role.0 in let inv = c.pass.invariant in
    let kept : IsBetweenCalls (v, []) items = subst (λ (m : M). IsBetweenCalls m items) (λ i. (v, inv.empty i)) inv in
    subst (λ (m : M). IsBetweenCalls m c.split-rows.new.self.items) (sym (c.split-seat.ensures.old ∙ (λ i. (view_without_role r v, inv.empty i))))
    (kept_left v items c.split-rows.new.self.items r kept c.split-rows.ensures.left)

pub invariant_of-result : goal.invariant_of-result
invariant_of-result c = let items = c.pass.inside.rows.items in let v : View = c.pass.inside.seat.me.0 in let r : ℕ = c.args.role.0 in let inv = c.pass.invariant in
    let kept : IsBetweenCalls (v, []) items = subst (λ (m : M). IsBetweenCalls m items) (λ i. (v, inv.empty i)) inv in
    let says : speaks r v.parts ≡ true = ap (λ z. speaks r z.view.parts) c.pass.view_is ∙ c.requires.speaks in
    subst (λ (m : M). IsBetweenCalls m c.split-rows.result.items) (sym c.split-seat.ensures.new) (kept_alone v items c.split-rows.result.items r kept says c.split-rows.ensures.right)
