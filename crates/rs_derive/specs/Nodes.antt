-- Public: whether a node is at one of the spots, and whether a derivation begins at the start.
use Rattle.std.specs.Prelude.{List, [], ◌∷◌, length, Bool, false, ◌==◌, ◌&&◌}
use Rattle.std.specs.List.{list_any}
use Rattle.rs_model.specs.Data.{Machine_data}
use Rattle.rs_derive.specs.Data.{DNode_data}
use Rattle.rs_derive.specs.Derivations.{spot_of}
use Rattle.rs_derive.specs.Moves.{Spot}
use Rattle.rs_derive.specs.Targets.{same_spot}

-- the node is at one of the spots
abbrev pub names : DNode_data → List Spot → Bool
names m spots = list_any (λ r. same_spot (spot_of m) r) spots

-- the first node is the start of both machines, with nothing owed
abbrev pub starts : Machine_data → Machine_data → List DNode_data → Bool
starts sub above [] = false
starts sub above (n ∷ later) = (n.state == sub.start) && ((n.above == above.start) && (length n.pending == 0))
