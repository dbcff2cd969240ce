use Rattle.std.proofs.Common.{◌≡◌, ◌∙◌, ◌-◌, ℕ, List, length, reverse, get_or, subst, sym, ap, arith}
use Rattle.std.proofs.lemmas.List.{take_all}
use Rattle.rs_text.specs.Names.{nearest_binding}
use Rattle.rs_text.proofs.Bindings.{nearest_before, nearest_there, nothing_left}
use Rattle.rs_text.proofs.bound.bound_number.Goals as goal

pub loop-left-init : goal.loop-left-init
loop-left-init c = (omega arith, ap (λ (z : List (List ℕ × ℕ)). nearest_binding c.args.name.now (reverse z)) (take_all (length c.args.bindings.now) c.args.bindings.now (omega arith)))

pub returns-then-is_same : goal.returns-then-is_same
returns-then-is_same c =
    let some = c.loop-left-test.true in
    let within = c.loop-left.invariant.0 in
    nearest_there c.args.name.now c.args.bindings.now (c.loop-left.left - 1) c.loop-left.left (c.binding.inside.name.now, c.binding.inside.number) (omega (arith, some)) (omega (arith, some, within))
    (subst (λ (b : List ℕ × ℕ). b ≡ get_or c.args.bindings.now (c.loop-left.left - 1) b) (sym c.binding.view_is) c.index-bindings-left.is)
    (sym c.is_same.ensures ∙ c.if-is_same.true) c.loop-left.invariant.1

pub loop-left-preserved : goal.loop-left-preserved
loop-left-preserved c =
    let some = c.loop-left-test.true in
    let within = c.loop-left.invariant.0 in (
      omega (arith, within),
      nearest_before c.args.name.now c.args.bindings.now (c.loop-left.left - 1) c.loop-left.left (c.binding.inside.name.now, c.binding.inside.number) (omega (arith, some))
          (omega (arith, some, within))
          (subst (λ (b : List ℕ × ℕ). b ≡ get_or c.args.bindings.now (c.loop-left.left - 1) b) (sym c.binding.view_is) c.index-bindings-left.is)
          (sym c.is_same.ensures ∙ c.if-is_same.false) c.loop-left.invariant.1,
    )

pub returns : goal.returns
returns c =
    let none = c.loop-left-test.false in
    nothing_left c.args.name.now c.args.bindings.now c.loop-left.left none c.loop-left.invariant.1
