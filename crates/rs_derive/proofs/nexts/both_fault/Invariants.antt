use Rattle.std.proofs.Common.{◌≡◌, drop, map}
use Rattle.rs_derive.proofs.Few.{AreLabels}
use Rattle.rs_derive.specs.Checks.{nexts_fault}
use Rattle.rs_derive.specs.Due.{both_at}
use Rattle.rs_derive.specs.Moves.{arm_of}
use Rattle.rs_derive.proofs.nexts.both_fault.Given as goal

abbrev pub invariant-loop-place : goal.invariant-loop-place
invariant-loop-place l = record {
  rest : nexts_fault l.nodes l.source.keeps l.source.rank l.source.node (map (λ a. both_at l.node.pending a (arm_of l.theirs a.label)) (drop l.place l.arms)) (drop l.place l.node.next) l.place
      ≡ nexts_fault l.nodes l.source.keeps l.source.rank l.source.node (map (λ a. both_at l.node.pending a (arm_of l.theirs a.label)) l.arms) l.node.next 0;
  labels : AreLabels l.arms l.place;
}
