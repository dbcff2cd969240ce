use Rattle.std.proofs.Common.{◌≡◌, ◌≤◌, length, drop}
use Rattle.rs_text.proofs.names.are_words_equal.Given as goal

abbrev pub invariant-loop-left : goal.invariant-loop-left
invariant-loop-left l = (l.left ≤ length l.one) × (drop l.left l.one ≡ drop l.left l.other)

abbrev pub decreases-loop-left : goal.decreases-loop-left
decreases-loop-left l = l.left
