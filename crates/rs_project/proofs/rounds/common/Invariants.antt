use Rattle.std.proofs.Common.{◌≡◌, ℕ, ◌<◌, ◌&&◌, false, get_or, length}
use Rattle.rs_project.proofs.rounds.common.Given as goal

abbrev pub invariant-loop-i : goal.invariant-loop-i
invariant-loop-i l = record {
  size : length l.both.items ≡ l.i;
  each : (n : ℕ) → n < l.i → get_or l.both.items n false ≡ (get_or l.ours n false && get_or l.theirs n false);
}
