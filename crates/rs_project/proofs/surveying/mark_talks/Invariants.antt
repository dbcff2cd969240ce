use Rattle.std.proofs.Common.{◌≡◌, ◌+◌, ◌≤◌, length}
use Rattle.rs_project.specs.Awaited.{HasNoUnreached}
use Rattle.rs_project.specs.Marks.{AreLeft, AreMarked, HaveNodeSizes}
use Rattle.rs_project.proofs.surveying.mark_talks.Given as goal

abbrev pub invariant-loop-number : goal.invariant-loop-number
invariant-loop-number l = record {
  bounded : l.number ≤ length l.protocol.nodes;
  counted : l.usual_size + l.number ≤ 1 + length l.protocol.nodes;
  involved_size : length l.involved ≡ length l.protocol.nodes;
  sizes : HaveNodeSizes l.protocol l.awaited l.passing l.ends;
  marked : AreMarked l.protocol l.role l.number l.involved l.awaited l.passing l.ends;
  reached : HasNoUnreached l.protocol l.role l.awaited;
  left : AreLeft l.number l.left.first l.left.end l.awaited;
}

abbrev pub decreases-loop-number : goal.decreases-loop-number
decreases-loop-number l = l.number
