use Rattle.std.proofs.Common.{◌≡◌, true}
use Rattle.streams.specs.Streams.{IsAt, bytes_got, history_at}
use Rattle.streams.proofs.roles.drain.Given as goal

abbrev pub invariant-loop : goal.invariant-loop
invariant-loop g l =
    ((goal.iterator-loop g).can_next l.iterator' × (goal.iterator-loop g).is_finite l.iterator')
    × IsAt l.session 2 l.stage × (l.is_whole ≡ true → l.bytes.items ≡ bytes_got 1 (history_at l.stage))
