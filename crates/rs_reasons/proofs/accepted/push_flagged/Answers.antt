use Rattle.std.proofs.Common.{◌++◌, ◌∙◌, Option, ap, arith}
use Rattle.rs_places.specs.declared.places.Position.{Position}
use Rattle.rs_reasons.specs.Flagged.{flagged_state}
use Rattle.rs_reasons.proofs.Telling.{lines_end, lines_step}
use Rattle.rs_reasons.proofs.accepted.push_flagged.Goals as goal

pub loop-number-preserved : goal.loop-number-preserved
loop-number-preserved c =
    let lt = rw c.min-number-end.ensures at c.loop-number-test.true in
    let told =
    c.in_ok-push_unused_of_state.ensures
    ∙ ap (λ (z : Option Position). c.loop-number.text ++ flagged_state c.args.names.now c.args.role.now z c.index-states-number.result c.index-uses-number.result) c.position_at.ensures in
    lines_step c.args.names.now c.args.role.now c.args.places.now c.args.states.now c.args.uses.now c.loop-number.number c.index-states-number.result _ c.index-uses-number.result _ c.loop-number.text
    c.push_unused_of_state.new.text _ (omega (arith, lt)) (omega (arith, lt)) c.index-states-number.is c.index-uses-number.is told c.loop-number.invariant

pub returns : goal.returns
returns c =
    lines_end c.args.names.now c.args.role.now c.args.places.now c.args.states.now c.args.uses.now c.loop-number.number c.loop-number.text _ (rw c.min-number-end.ensures at c.loop-number-test.false)
    c.loop-number.invariant
