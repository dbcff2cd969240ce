use Rattle.rs_reasons.proofs.Telling.{arms_end}
use Rattle.rs_reasons.proofs.accepted.push_unused_arms.Goals as goal

pub returns : goal.returns
returns c =
    arms_end c.args.names.now c.args.role.now c.args.at c.args.peer c.args.arms.now c.args.taken.now c.loop-place.place c.loop-place.text _ (rw c.min-place-end.ensures at c.loop-place-test.false)
    c.loop-place.invariant
