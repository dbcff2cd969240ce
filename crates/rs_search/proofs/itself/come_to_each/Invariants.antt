use Rattle.std.proofs.Common.{length, map, take}
use Rattle.rs_model.specs.declared.graph.Arm.{Arm}
use Rattle.rs_graph.specs.Naming.{AreNamed}
use Rattle.rs_search.specs.Itself.{ArePositions, even}
use Rattle.rs_search.specs.Longer.{IsLonger}
use Rattle.rs_search.specs.Spots.{spots_of}
use Rattle.rs_search.proofs.itself.come_to_each.Given as goal

abbrev pub invariant-loop-i : goal.invariant-loop-i
invariant-loop-i l = AreNamed (spots_of l.fn.nodes.items) (map (λ (a : Arm). even a.next) (take l.i l.arms)) (spots_of l.nodes.items) l.row
    × ArePositions (spots_of l.nodes.items) l.places.items (length l.fn.places.items)
    × IsLonger l.fn.nodes.items l.nodes.items
