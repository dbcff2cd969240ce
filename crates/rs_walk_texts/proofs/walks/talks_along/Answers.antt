use Rattle.std.proofs.Common.{◌<◌, ◌-◌, ◌∙◌, Option, ap, arith, length, slice_set, subst, sym}
use Rattle.rs_derive.specs.Moves.{Spot}
use Rattle.rs_explain.specs.Walks.{WalkStep_data}
use Rattle.rs_graph.proofs.Buckets.{got}
use Rattle.rs_graph.proofs.Growth.{at_within}
use Rattle.rs_walk_texts.proofs.Toward.{AreFoundFrom, found_on}
use Rattle.rs_walk_texts.specs.Walks.{spot_before, step_talk}
use Rattle.rs_walk_texts.specs.declared.passed.TalkArm.{TalkArm}
use Rattle.rs_walk_texts.proofs.walks.talks_along.Goals as goal

pub loop-left-preserved : goal.loop-left-preserved
loop-left-preserved c =
    let positive : 0 < c.loop-left.left = c.loop-left-test.true in
    let within : c.loop-left.left - 1 < length c.args.steps.now = omega (arith, positive, c.loop-left.invariant.within) in
    let step = at_within c.args.steps.now (c.loop-left.left - 1) within in
    let talk =
    c.in_ok-talk.ensures
    ∙ ap (λ (z : Spot). step_talk c.args.source.now z c.index-steps-left.result c.loop-left.next) c.spot_before-spot.ensures
    ∙ ap (λ (z : WalkStep_data). step_talk c.args.source.now (spot_before c.args.first.now c.args.steps.now (c.loop-left.left - 1)) z c.loop-left.next)
    (c.index-steps-left.is ∙ got c.args.steps.now (c.loop-left.left - 1) step.0 c.index-steps-left.result step.1) in
    subst (λ (z : Option TalkArm). AreFoundFrom c.args.source.now c.args.first.now c.args.steps.now (c.loop-left.left - 1) (slice_set c.loop-left.talks.items (c.loop-left.left - 1) c.in_ok-talk.talk) z)
    (sym c.or_later-next.ensures)
    (found_on c.args.source.now c.args.first.now c.args.steps.now c.loop-left.left c.loop-left.talks.items c.loop-left.next c.in_ok-talk.talk step.0 positive c.loop-left.invariant step.1 talk)
