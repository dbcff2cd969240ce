use Rattle.std.proofs.Common.{◌≡◌, ◌+◌, ◌≤◌}
use Rattle.benches.specs.Players.{IsAt}
use Rattle.benches.proofs.ring_runs.hear.Given as goal

abbrev pub invariant-loop-n : goal.invariant-loop-n
invariant-loop-n g l =
    IsAt l.rings l.player × (l.player.role ≡ l.fn.player.role) × (l.player.state ≡ 0) × (l.player.acts + l.fn.first ≡ l.fn.player.acts + l.n) × (l.right + l.fn.first ≤ l.n)
