use Rattle.std.proofs.Common.{◌≡◌, ◌++◌, true, length}
use Rattle.streams.specs.Streams.{IsAt, bytes_sent, history_at}
use Rattle.streams.proofs.roles.feed.Given as goal

abbrev pub invariant-loop-left : goal.invariant-loop-left
invariant-loop-left g l = IsAt l.session 0 l.stage × (l.is_whole ≡ true → bytes_sent 1 (history_at l.stage) ++ l.left ≡ l.fn.bytes)

abbrev pub decreases-loop-left : goal.decreases-loop-left
decreases-loop-left g l = length l.left
