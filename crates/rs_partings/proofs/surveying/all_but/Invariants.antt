use Rattle.std.proofs.Common.{◌≡◌, ℕ, ◌<◌, ◌&&◌, not, false, get_or, length}
use Rattle.rs_partings.proofs.surveying.all_but.Given as goal

abbrev pub invariant-loop-i : goal.invariant-loop-i
invariant-loop-i l = record {
  size : length l.flags.items ≡ l.i;
  each : (n : ℕ) → n < l.i → get_or l.flags.items n false ≡ (get_or l.ours n false && not (get_or l.theirs n false));
}
