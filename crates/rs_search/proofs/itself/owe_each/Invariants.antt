use Rattle.std.proofs.Common.{◌≡◌, ◌≤◌, ◌++◌, ℕ, List, Option, length, map, take}
use Rattle.rs_model.specs.declared.limits.TheConstants.{MOST_CANDIDATES}
use Rattle.rs_model.specs.declared.graph.Arm.{Arm}
use Rattle.rs_derive.specs.Moves.{owing_receive}
use Rattle.rs_graph.specs.Naming.{AreNamed}
use Rattle.rs_search.specs.Itself.{ArePlaced, even}
use Rattle.rs_search.specs.Longer.{IsLonger}
use Rattle.rs_search.specs.Spots.{spots_of}
use Rattle.rs_search.proofs.itself.owe_each.Given as goal

abbrev pub invariant-loop-i : goal.invariant-loop-i
invariant-loop-i l = AreNamed (spots_of l.fn.nodes.items) (map (λ (b : Arm). owing_receive (even l.fn.state) l.fn.peer b) (take l.i l.arms)) (spots_of l.nodes.items) l.row
    × (length l.nodes.items ≤ MOST_CANDIDATES)
    × (spots_of l.nodes.items ≡ spots_of l.fn.nodes.items ++ map (λ (b : Arm). owing_receive (even l.fn.state) l.fn.peer b) (take l.i l.arms))
    × ((places : List (Option ℕ)) → ArePlaced (spots_of l.fn.nodes.items) places → ArePlaced (spots_of l.nodes.items) places)
    × IsLonger l.fn.nodes.items l.nodes.items
