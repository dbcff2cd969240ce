use Rattle.std.proofs.Common.{◌≡◌, ℕ, ◌<◌, ◌≤◌, List, Bool, true, false, length, Some, slice_get}
use Rattle.rs_model.specs.declared.graph.Node.{Node}
use Rattle.rs_model.specs.declared.graph.Role.{Role}
use Rattle.rs_project.specs.Awaited.{HasNoUnreached}
use Rattle.rs_project.specs.Marks.{AreLeft, AreMarked, HasFlags, HaveNodeSizes, IsOn, leads_on, count_of_lowered}
use Rattle.rs_project.proofs.surveying.await_left.Given as goal

abbrev pub invariant-loop-number : goal.invariant-loop-number
invariant-loop-number l = record {
  bounded : l.number ≤ length l.protocol.nodes;
  sizes : HaveNodeSizes l.protocol l.awaited l.passing l.ends;
  marked : (role : Role) (involved : List Bool) → AreMarked l.protocol role 0 involved l.fn.awaited l.fn.passing l.fn.ends
      → AreMarked l.protocol role 0 involved l.awaited l.passing l.ends;
  left : AreLeft l.number l.left.first l.left.end l.awaited;
  kept : HasFlags l.fn.awaited l.awaited;
  less : l.more ≡ true → count_of_lowered l.awaited < count_of_lowered l.fn.awaited;
  same : l.more ≡ false → l.awaited ≡ l.fn.awaited;
  settled : l.more ≡ false → l.by_all ≡ false → (n : ℕ) (node : Node) → l.number ≤ n → slice_get l.protocol.nodes n ≡ Some node → leads_on l.awaited node ≡ true → IsOn l.awaited n;
  rounds : l.by_all ≡ true → (role : Role) → HasNoUnreached l.protocol role l.fn.awaited → HasNoUnreached l.protocol role l.awaited;
}

abbrev pub decreases-loop-number : goal.decreases-loop-number
decreases-loop-number l = l.number
