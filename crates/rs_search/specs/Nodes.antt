-- Steps: the nodes of a derivation, from numbered spots.
use Rattle.std.specs.Prelude.{◌≡◌, ◌<◌, ℕ, suc, List, [], ◌∷◌, length, slice_get, slice_index_or, Some, Bool, false, if◌then◌else◌}
use Rattle.rs_derive.specs.Data.{DNode_data}
use Rattle.rs_derive.specs.Moves.{Spot}

-- the numbers from k on, one for each item
abbrev pub places_of : {X : Type 0} → ℕ → List X → List ℕ
places_of k [] = []
places_of k (x ∷ xs) = k ∷ places_of (suc k) xs

-- the node at a spot, with that rank and these nexts
abbrev pub node_at_spot : Spot → ℕ → List ℕ → DNode_data
node_at_spot p rank row = record { state = p.state; pending = p.pending; above = p.above; rank = rank; next = row }

-- the first n items have their nodes
pub record AreNodes (points : List Spot) (items : List ℕ) (nexts : List (List ℕ)) (ranks : List ℕ) (count : ℕ) (nodes : List DNode_data) : Type 0 where
  pub size : length nodes ≡ count
  pub each : (i n : ℕ) (p : Spot) (row : List ℕ) → i < count → slice_get items i ≡ Some n → slice_get points n ≡ Some p → slice_get nexts i ≡ Some row
      → slice_get nodes i ≡ Some (node_at_spot p (slice_index_or ranks i 0) row)

-- the nexts of the first n items whose edges keep their head, and nothing for the others
pub record AreKept (keeps : List Bool) (items : List ℕ) (nexts : List (List ℕ)) (count : ℕ) (kept : List (List ℕ)) : Type 0 where
  pub size : length kept ≡ count
  pub each : (i n : ℕ) (row : List ℕ) → i < count → slice_get items i ≡ Some n → slice_get nexts i ≡ Some row → slice_get kept i ≡ Some (if slice_index_or keeps n false then row else [])
