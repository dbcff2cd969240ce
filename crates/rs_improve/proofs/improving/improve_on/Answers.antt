use Rattle.std.proofs.Common.{◌+◌, refl, subst}
use Rattle.rs_improve.proofs.Once.{so_far_on}
use Rattle.rs_improve.specs.Attempts.{IsAttempt}
use Rattle.rs_improve.specs.declared.improving.Attempt.{Attempt}
use Rattle.rs_improve.proofs.improving.improve_on.Goals as goal

pub loop-derivation-preserved : goal.loop-derivation-preserved
loop-derivation-preserved c =
    let l = c.loop-derivation in
    let h = subst (λ (z : Attempt). IsAttempt c.args.above.now c.args.bound c.args.asked l.swaps l.machine z) c.in-Succeeds.is c.in_ok-reason.ensures in
    (so_far_on c.args.above.now c.args.bound c.args.asked l.swaps (l.swaps + 1) l.machine c.in-Succeeds.next l.derivation c.in-Succeeds.found refl l.invariant.0 h, l.invariant.1)
