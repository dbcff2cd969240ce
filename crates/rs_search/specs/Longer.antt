-- Steps: a list of nodes that grows at its end.
use Rattle.std.specs.Prelude.{◌≡◌, ℕ, List, slice_get, slice_set, Some}
use Rattle.rs_derive.specs.Data.{DNode_data}
use Rattle.rs_derive.specs.Derivations.{spot_of}
use Rattle.rs_derive.specs.Moves.{Spot}
use Rattle.rs_graph.specs.Naming.{AreNamed}
use Rattle.rs_search.specs.Nodes.{node_at_spot}
use Rattle.rs_search.specs.Spots.{ranks_of, spots_of}

-- no node has a rank
abbrev pub AreUnranked : List DNode_data → Type 0
AreUnranked nodes = (i rank : ℕ) → slice_get (ranks_of nodes) i ≡ Some rank → rank ≡ 0

-- the nodes stand where they stood, and those that came have no rank
pub record IsLonger (old new : List DNode_data) : Type 0 where
  pub kept : (i : ℕ) (n : DNode_data) → slice_get old i ≡ Some n → slice_get new i ≡ Some n
  pub unranked : AreUnranked old → AreUnranked new

-- the node at the number leads to these, and nothing else changed
pub record HasGotNexts (old : List DNode_data) (number : ℕ) (row : List ℕ) (new : List DNode_data) : Type 0 where
  pub node : DNode_data
  pub stood : slice_get old number ≡ Some node
  pub new_is : new ≡ slice_set old number (node_at_spot (spot_of node) node.rank row)

-- the list has grown by the new ones of these spots, and the node at the number leads to them all
pub record LeadsTo (old : List DNode_data) (number : ℕ) (spots : List Spot) (new : List DNode_data) : Type 0 where
  pub grown : List DNode_data
  pub longer : IsLonger old grown
  pub row : List ℕ
  pub named : AreNamed (spots_of old) spots (spots_of grown) row
  pub got : HasGotNexts grown number row new

-- the node at the number leads to what its spot leads to
abbrev pub LeadsOn : (Spot → List Spot) → List DNode_data → ℕ → List DNode_data → Type 0
LeadsOn spots old number new = (p : Spot) → slice_get (spots_of old) number ≡ Some p → LeadsTo old number (spots p) new
