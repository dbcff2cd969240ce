use Rattle.std.proofs.Common.{◌≡◌, [], ◌∷◌, drop, map}
use Rattle.rs_derive.proofs.Few.{AreLabels}
use Rattle.rs_derive.specs.Checks.{nexts_fault}
use Rattle.rs_derive.specs.Derivations.{spot_of}
use Rattle.rs_derive.specs.Moves.{owing_receive}
use Rattle.rs_derive.proofs.nexts.follow_fault.Given as goal

abbrev pub invariant-loop-place : goal.invariant-loop-place
invariant-loop-place l = record {
  rest : nexts_fault l.nodes l.source.keeps l.source.rank l.source.node (map (λ b. owing_receive (spot_of l.node) l.peer b ∷ []) (drop l.place l.arms)) (drop l.place l.node.next) l.place
      ≡ nexts_fault l.nodes l.source.keeps l.source.rank l.source.node (map (λ b. owing_receive (spot_of l.node) l.peer b ∷ []) l.arms) l.node.next 0;
  labels : AreLabels l.arms l.place;
}
