use Rattle.std.proofs.Common.{◌<◌, ◌+◌, ◌∙◌, List, None, Option, ap, arith, drop, length, sym}
use Rattle.rs_derive.specs.Moves.{Spot}
use Rattle.rs_graph.proofs.Buckets.{got}
use Rattle.rs_graph.proofs.Growth.{at_within}
use Rattle.rs_walk_texts.proofs.Toward.{owed_on}
use Rattle.rs_walk_texts.specs.Owing.{owed_after, owed_along}
use Rattle.rs_walk_texts.specs.Walks.{rule_of, spot_before}
use Rattle.rs_walk_texts.specs.declared.passed.TalkArm.{TalkArm}
use Rattle.rs_walk_texts.proofs.owing.owed_along.Goals as goal

pub loop-i-preserved : goal.loop-i-preserved
loop-i-preserved c =
    let source = c.args.source.now in
    let i = c.loop-i.i in
    let owed = c.loop-i.owed.items in
    let within : i < length c.args.steps.now = c.loop-i-test.true in
    let step = at_within c.args.steps.now i within in
    let talk = at_within c.args.talks.now i (omega (arith, within, c.requires)) in
    let noted =
    c.in_ok-note_step.ensures
    ∙ ap (λ (z : Option TalkArm). owed_after c.rule_of.result z owed) (got c.args.talks.now i talk.0 None talk.1)
    ∙ ap (λ z. owed_after z talk.0 owed) c.rule_of.ensures
    ∙ ap (λ (z : Spot). owed_after (rule_of source z) talk.0 owed) c.spot_before-spot.ensures in
    ap (λ (z : List (Option TalkArm)). owed_along source (spot_before c.args.first.now c.args.steps.now (i + 1)) (drop (i + 1) c.args.steps.now) (drop (i + 1) c.args.talks.now) z) noted
    ∙ sym (owed_on source c.args.first.now c.args.steps.now c.args.talks.now owed i step.0 talk.0 step.1 talk.1)
    ∙ c.loop-i.invariant
