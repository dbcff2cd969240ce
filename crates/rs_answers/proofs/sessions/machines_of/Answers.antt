use Rattle.rs_answers.proofs.EachRole.{all_chosen}
use Rattle.rs_answers.proofs.sessions.machines_of.Goals as goal

pub returns : goal.returns
returns c = all_chosen c.args.own.now c.args.projections.now c.loop-place.machines.items c.loop-place.place (rw c.min-place-end.ensures at c.loop-place-test.false) c.loop-place.invariant
