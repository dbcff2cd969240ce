use Rattle.std.proofs.Common.{◌≡◌, ◌++◌, ◌-◌}
use Rattle.std.specs.List.{flat_map}
use Rattle.rs_demos.specs.Sessions.{numbers_from, ring_exchanges, ring_round}
use Rattle.rs_demos.proofs.exchanges.ring_exchanges.Given as goal

abbrev pub invariant-loop-round : goal.invariant-loop-round
invariant-loop-round l = l.exchanges.items ++ flat_map (λ round. ring_round l.roles) (numbers_from l.round (l.roles - l.round)) ≡ ring_exchanges l.roles
