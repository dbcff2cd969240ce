use Rattle.std.proofs.Common.{◌≡◌, ◌≤◌, ℕ, false, length}
use Rattle.rs_model.specs.declared.graph.Role.{Role}
use Rattle.rs_project.specs.Marks.{HasUnreached, IsOn}
use Rattle.rs_project.proofs.peeling.sweep.Given as goal

abbrev pub invariant-loop-number : goal.invariant-loop-number
invariant-loop-number l = record {
  within : l.number ≤ length l.left.items;
  size : length l.left.items ≡ length l.protocol.nodes;
  unreached : (role : Role) → HasUnreached l.protocol role l.fn.left.items → HasUnreached l.protocol role l.left.items;
  none : l.some ≡ false → (n : ℕ) → l.number ≤ n → IsOn l.left.items n → ⊥;
}

abbrev pub decreases-loop-number : goal.decreases-loop-number
decreases-loop-number l = l.number
