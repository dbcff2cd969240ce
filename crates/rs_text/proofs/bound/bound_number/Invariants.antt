use Rattle.std.proofs.Common.{◌≡◌, length, reverse, take, ◌≤◌}
use Rattle.rs_text.specs.Names.{nearest_binding}
use Rattle.rs_text.proofs.bound.bound_number.Given as goal

abbrev pub invariant-loop-left : goal.invariant-loop-left
invariant-loop-left l = (l.left ≤ length l.bindings) × (nearest_binding l.name (reverse (take l.left l.bindings)) ≡ nearest_binding l.name (reverse l.bindings))

abbrev pub decreases-loop-left : goal.decreases-loop-left
decreases-loop-left l = l.left
