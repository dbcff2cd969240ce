use Rattle.std.proofs.Common.{◌<◌, ◌-◌, ◌∙◌, ap, arith, length}
use Rattle.rs_explain.specs.Walks.{WalkStep_data}
use Rattle.rs_graph.proofs.Buckets.{got}
use Rattle.rs_graph.proofs.Growth.{at_within}
use Rattle.rs_walk_texts.proofs.Toward.{before_is}
use Rattle.rs_walk_texts.proofs.walks.spot_before.Goals as goal

pub returns-then-number-gt0 : goal.returns-then-number-gt0
returns-then-number-gt0 c =
    let within : c.args.number - 1 < length c.args.steps.now = omega (arith, c.requires, c.if-number-gt0.true) in
    let step = at_within c.args.steps.now (c.args.number - 1) within in
    c.spot_behind.ensures
    ∙ ap (λ (z : WalkStep_data). z.spot) (c.index-steps-number.is ∙ got c.args.steps.now (c.args.number - 1) step.0 c.index-steps-number.result step.1)
    ∙ before_is c.args.first.now c.args.steps.now c.args.number step.0 c.if-number-gt0.true step.1
