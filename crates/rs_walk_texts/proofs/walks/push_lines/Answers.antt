use Rattle.std.proofs.Common.{append_assoc, ◌<◌, ◌+◌, ◌++◌, ◌∙◌, List, None, Option, ap, arith, drop, length, slice_index_or, sym, ℕ}
use Rattle.rs_derive.specs.Moves.{Spot}
use Rattle.rs_explain.specs.Walks.{WalkStep_data}
use Rattle.rs_graph.proofs.Buckets.{got}
use Rattle.rs_graph.proofs.Growth.{at_within}
use Rattle.rs_walk_texts.proofs.Toward.{line_on}
use Rattle.rs_walk_texts.specs.Walks.{lines_text, spot_before, step_text}
use Rattle.rs_walk_texts.specs.declared.passed.TalkArm.{TalkArm}
use Rattle.rs_walk_texts.proofs.walks.push_lines.Goals as goal

pub loop-i-preserved : goal.loop-i-preserved
loop-i-preserved c =
    let within : c.loop-i.i < length c.args.steps.now = c.loop-i-test.true in
    let step = at_within c.args.steps.now c.loop-i.i within in
    let talk = at_within c.args.talks.now c.loop-i.i (omega (arith, within, c.requires)) in
    let rest : List ℕ = lines_text c.args.source.now (spot_before c.args.first.now c.args.steps.now (c.loop-i.i + 1)) (drop (c.loop-i.i + 1) c.args.steps.now) (drop (c.loop-i.i + 1) c.args.talks.now) in
    let written =
    c.in_ok-push_step.ensures
    ∙ ap (λ (z : Spot). c.loop-i.text ++ step_text c.args.source.now z c.index-steps-i.result (slice_index_or c.args.talks.now c.loop-i.i None)) c.spot_before-spot.ensures
    ∙ ap (λ (z : WalkStep_data). c.loop-i.text ++ step_text c.args.source.now (spot_before c.args.first.now c.args.steps.now c.loop-i.i) z (slice_index_or c.args.talks.now c.loop-i.i None))
    (c.index-steps-i.is ∙ got c.args.steps.now c.loop-i.i step.0 c.index-steps-i.result step.1)
    ∙ ap (λ (z : Option TalkArm). c.loop-i.text ++ step_text c.args.source.now (spot_before c.args.first.now c.args.steps.now c.loop-i.i) step.0 z) (got c.args.talks.now c.loop-i.i talk.0 None talk.1) in
    ap (λ (z : List ℕ). z ++ rest) written
    ∙ append_assoc c.loop-i.text (step_text c.args.source.now (spot_before c.args.first.now c.args.steps.now c.loop-i.i) step.0 talk.0) rest
    ∙ ap (λ (z : List ℕ). c.loop-i.text ++ z) (sym (line_on c.args.source.now c.args.first.now c.args.steps.now c.args.talks.now c.loop-i.i step.0 talk.0 step.1 talk.1))
    ∙ c.loop-i.invariant
