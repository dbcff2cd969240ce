use Rattle.std.proofs.Common.{rules, ◌≡◌, ◌∙◌, sym, true, false, arith, ◌-◌}
use Rattle.rs_explain.proofs.Growing.{alike_at, alike_none}
use Rattle.rs_explain.specs.Growth as spec
use Rattle.rs_explain.proofs.growth.alike_from.Goals as goal

pub returns-then-not-is_alike-clause-from : goal.returns-then-not-is_alike-clause-from
returns-then-not-is_alike-clause-from c =
    let a = c.args in
    let e : spec.is_alike a.first.now a.steps.now a.size a.more (c.loop-place.place - 1) ≡ false = search rules in
    sym (alike_at a.first.now a.steps.now a.size a.more c.loop-place.place false (omega arith) e) ∙ c.loop-place.invariant.same

pub loop-place-preserved : goal.loop-place-preserved
loop-place-preserved c =
    let a = c.args in
    let e : spec.is_alike a.first.now a.steps.now a.size a.more (c.loop-place.place - 1) ≡ true = search rules in
    let few = c.loop-place.invariant.few in
    record { few = omega arith; same = sym (alike_at a.first.now a.steps.now a.size a.more c.loop-place.place true (omega arith) e) ∙ c.loop-place.invariant.same }

pub returns-clause-from : goal.returns-clause-from
returns-clause-from c = alike_none c.args.first.now c.args.steps.now c.args.size c.args.more c.loop-place.place (omega arith) ∙ c.loop-place.invariant.same
