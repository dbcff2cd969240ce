use Rattle.std.proofs.Common.{rules, ◌≡◌, List, All, ap, subst, arith}
use Rattle.rs_session.specs.Ends.{AreAll}
use Rattle.rs_session.specs.Leaving.{IsFrom}
use Rattle.rs_endpoints.proofs.Gathering.{front_all, last_all, more_all}
use Rattle.rs_endpoints.proofs.sharing.Shared.close.Goals as goal

pub loop-locker-preserved-in-Some-into_left : goal.loop-locker-preserved-in-Some-into_left
loop-locker-preserved-in-Some-into_left c =
    let session = c.session.inside.rings in let left = c.in-Some-into_left.left in
    let all = subst (All (λ key. key ≡ session)) c.in-Some.ensures.items c.loop-locker.invariant.0 in
    let keyed : c.in-Some.locker ≡ session = last_all (λ key. key ≡ session) c.pop.new.self.items c.in-Some.locker all in (
      front_all (λ key. key ≡ session) c.pop.new.self.items c.in-Some.locker all,
      subst (AreAll (IsFrom session)) (search rules) (more_all (IsFrom session) c.loop-locker.lefts.items left c.loop-locker.invariant.1 (subst (λ s. IsFrom s left) keyed c.in-Some-into_left.ensures)),
      omega (arith, c.loop-locker.invariant.2, c.in-Some.ensures.len, c.push_left.ensures.length, c.push_left.ensures.capacity),
    )

pub loop-locker-preserved : goal.loop-locker-preserved
loop-locker-preserved c =
    let session = c.session.inside.rings in (
      front_all (λ key. key ≡ session) c.pop.new.self.items c.in-Some.locker (subst (All (λ key. key ≡ session)) c.in-Some.ensures.items c.loop-locker.invariant.0),
      c.loop-locker.invariant.1,
      omega (arith, c.loop-locker.invariant.2, c.in-Some.ensures.len),
    )
