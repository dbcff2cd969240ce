use Rattle.std.proofs.Common.{length, ap}
use Rattle.rs_exec.proofs.Handed.{held_first}
use Rattle.rs_exec.proofs.hands.Hand.begin.Goals as goal

pub invariant_of-result : goal.invariant_of-result
invariant_of-result c =
    let e = c.in_ok-session.ensures in
    held_first c.in_ok-session.session c.args.accepted.now c.in_ok-session.all (length c.machines-count.result.now) e.accepted e.machines e.table e.first (ap length c.machines-count.ensures.machines)
