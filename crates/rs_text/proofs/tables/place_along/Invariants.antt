use Rattle.std.proofs.Common.{◌≤◌, length}
use Rattle.rs_text.proofs.Tabling.{Looked}
use Rattle.rs_text.proofs.tables.place_along.Given as goal

abbrev pub invariant-loop-left : goal.invariant-loop-left
invariant-loop-left l = (l.left ≤ length l.names) × Looked l.names l.links l.word l.head l.found l.left

abbrev pub decreases-loop-left : goal.decreases-loop-left
decreases-loop-left l = l.left
