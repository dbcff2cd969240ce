use Rattle.std.proofs.Common.{◌≡◌, ◌≤◌, ◌+◌, All, vec_capacity, vec_len}
use Rattle.rs_session.specs.Ends.{AreAll}
use Rattle.rs_session.specs.Leaving.{IsFrom}
use Rattle.rs_endpoints.proofs.sharing.Shared.close.Given as goal

abbrev pub invariant-loop-locker : goal.invariant-loop-locker
invariant-loop-locker l = All (λ key. key ≡ l.session-inside.rings) l.lockers.items × AreAll (IsFrom l.session-inside.rings) l.lefts.items × (vec_len l.lefts + vec_len l.lockers ≤ vec_capacity l.lefts)

abbrev pub decreases-loop-locker : goal.decreases-loop-locker
decreases-loop-locker l = vec_len l.lockers
