use Rattle.std.proofs.Common.{◌≡◌, ◌++◌, ◌-◌, map}
use Rattle.rs_demos.specs.Sessions.{next_in_ring, numbers_from, ring_round}
use Rattle.rs_demos.proofs.exchanges.push_ring_round.Given as goal

abbrev pub invariant-loop-role : goal.invariant-loop-role
invariant-loop-role l = l.exchanges.items ++ map (λ i. (i, next_in_ring l.roles i)) (numbers_from l.role (l.roles - l.role)) ≡ l.fn.exchanges.items ++ ring_round l.roles
