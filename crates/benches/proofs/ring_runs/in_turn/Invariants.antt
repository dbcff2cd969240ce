use Rattle.std.proofs.Common.{◌≡◌, ◌≤◌}
use Rattle.benches.specs.Players.{IsAt}
use Rattle.benches.proofs.ring_runs.in_turn.Given as goal

abbrev pub invariant-loop-n : goal.invariant-loop-n
invariant-loop-n l =
    IsAt l.rings l.a × IsAt l.rings l.b × (l.a.role ≡ l.fn.a.role) × (l.b.role ≡ l.fn.b.role) × (l.a.state ≡ 0) × (l.b.state ≡ 0) × (l.a.acts ≤ l.n) × (l.b.acts ≤ l.n) × (l.right ≤ l.n)
