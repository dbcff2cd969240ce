use Rattle.std.proofs.Common.{◌≡◌, ◌++◌, ◌-◌}
use Rattle.std.specs.List.{flat_map}
use Rattle.rs_demos.specs.Sessions.{numbers_from, ring_exchanges, ring_round}
use Rattle.rs_demos.specs.Writing.{exchanges_text}
use Rattle.rs_demos.proofs.documents.push_ring_rounds.Given as goal

abbrev pub invariant-loop-round : goal.invariant-loop-round
invariant-loop-round l = l.text ++ exchanges_text (flat_map (λ round. ring_round l.roles) (numbers_from l.round (l.roles - l.round))) ≡ l.fn.text ++ exchanges_text (ring_exchanges l.roles)
