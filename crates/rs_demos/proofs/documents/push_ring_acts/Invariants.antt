use Rattle.std.proofs.Common.{◌≡◌, ◌++◌, ◌-◌, map}
use Rattle.rs_demos.specs.Sessions.{next_in_ring, numbers_from, previous_in_ring, ring_pairs}
use Rattle.rs_demos.specs.Writing.{pairs_text}
use Rattle.rs_demos.proofs.documents.push_ring_acts.Given as goal

abbrev pub invariant-loop-round : goal.invariant-loop-round
invariant-loop-round l = l.text ++ pairs_text (map (λ round. (next_in_ring l.roles l.role, previous_in_ring l.roles l.role)) (numbers_from l.round (l.roles - l.round))) ≡ l.fn.text ++ pairs_text
    (ring_pairs l.roles l.role)
