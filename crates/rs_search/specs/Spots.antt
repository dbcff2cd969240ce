-- Public: what contracts see of a table of spots.
use Rattle.std.specs.Prelude.{ℕ, List, map}
use Rattle.rs_derive.specs.Data.{DNode_data}
use Rattle.rs_derive.specs.Derivations.{spot_of}
use Rattle.rs_derive.specs.Moves.{Spot}

-- the spots by their numbers, of the first of them the numbers of what each leads to, and their ranks
pub record SpotTable_data : Type 0 where
  pub spots : List Spot
  pub rows : List (List ℕ)
  pub ranks : List ℕ

-- the spots of nodes
abbrev pub spots_of : List DNode_data → List Spot
spots_of nodes = map spot_of nodes

-- their nexts
abbrev pub nexts_of_nodes : List DNode_data → List (List ℕ)
nexts_of_nodes nodes = map (λ (n : DNode_data). n.next) nodes

-- their ranks
abbrev pub ranks_of : List DNode_data → List ℕ
ranks_of nodes = map (λ (n : DNode_data). n.rank) nodes
