use Rattle.std.proofs.Common.{◌≡◌}
use Rattle.streams.specs.Streams.{IsAt, bytes_got, bytes_sent, history_at}
use Rattle.streams.proofs.roles.hand_on.Given as goal

abbrev pub invariant-loop : goal.invariant-loop
invariant-loop g l =
    ((goal.iterator-loop g).can_next l.iterator' × (goal.iterator-loop g).is_finite l.iterator')
    × IsAt l.session 1 l.stage × (bytes_sent 2 (history_at l.stage) ≡ bytes_got 0 (history_at l.stage))
