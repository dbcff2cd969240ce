-- Steps: the nodes of the canonical derivation, by the numbers of their candidates, and the edges that keep the oldest act that is owed.
use Rattle.std.specs.Prelude.{◌≡◌, ℕ, ◌+◌, ◌<◌, ◌≤◌, List, [], ◌∷◌, length, map, slice_get, slice_index_or, Option, Some, None, nat_le, if◌then◌else◌}
use Rattle.rs_model.specs.Data.{Machine_data}
use Rattle.rs_derive.specs.Data.{DNode_data, Derivation_data}
use Rattle.rs_derive.specs.Derivations.{spot_of}
use Rattle.rs_derive.specs.Moves.{Spot, spot}
use Rattle.rs_graph.specs.Lists.{Among}
use Rattle.rs_graph.specs.Removal.{at}
use Rattle.rs_search.specs.Canonical.{HasCanonicalNodes}
use Rattle.rs_explain.specs.Distances.{far_at}
use Rattle.rs_explain.specs.Forgetting.{IsKeepingStep}

-- the spots of the candidates with these numbers
abbrev pub spots_at : List Spot → List ℕ → List Spot
spots_at spots items = map (λ (n : ℕ). slice_index_or spots n (spot 0 [] 0)) items

-- numbers of nodes: of each the number of a spot, a place, and a row of numbers
pub record AreNumberedNodes (spots : List Spot) (items places : List ℕ) (rows : List (List ℕ)) : Type 0 where
  pub items_within : (i n : ℕ) → slice_get items i ≡ Some n → n < length spots
  pub places_size : length places ≡ length items
  pub rows_size : length rows ≡ length items
  pub few : length items ≤ 65536
  pub within : (i j : ℕ) → Among (slice_index_or rows i []) j → j < length items
  pub short : (i : ℕ) → length (slice_index_or rows i []) ≤ 65537
  pub low : (i : ℕ) → at places i ≤ 65537

-- of each node the candidate, the place of the first spot of its move among all to which the candidate leads, and the nodes to which its edges lead that keep the oldest act
pub record AreKeptNodes (sub above : Machine_data) (bound : ℕ) (spots : List Spot) (items places : List ℕ) (rows : List (List ℕ)) : Type 0 where
  pub derivation : Derivation_data
  pub canonical : HasCanonicalNodes sub above bound derivation
  pub same : map (λ (n : DNode_data). spot_of n) derivation.nodes ≡ spots_at spots items
  pub numbers : AreNumberedNodes spots items places rows
  pub goes : (i k j : ℕ) (x y : Spot) → slice_get (spots_at spots items) i ≡ Some x → slice_get (slice_index_or rows i []) k ≡ Some j → slice_get (spots_at spots items) j ≡ Some y
      → IsKeepingStep sub above bound x (at places i + k) y
  pub named : (i place : ℕ) (x y : Spot) → slice_get (spots_at spots items) i ≡ Some x → IsKeepingStep sub above bound x place y
      → (k j : ℕ) × (at places i + k ≤ place) × (slice_get (slice_index_or rows i []) k ≡ Some j) × (slice_get (spots_at spots items) j ≡ Some y)

-- the places of the moves at which the items stay
pub record ArePlaces (current items : List ℕ) (count : ℕ) (places : List ℕ) : Type 0 where
  pub size : length places ≡ count
  pub each : (i n : ℕ) → i < count → slice_get items i ≡ Some n → at places i ≡ at current n

-- the lesser of two distances, and the known one where only one is known
abbrev pub lesser : Option ℕ → Option ℕ → Option ℕ
lesser None b = b
lesser (Some d) None = Some d
lesser (Some d) (Some e) = if nat_le d e then Some d else Some e

-- the least of a distance and those of the numbers of the row
abbrev pub least_of : List (Option ℕ) → Option ℕ → List ℕ → Option ℕ
least_of far least [] = least
least_of far least (r ∷ row) = least_of far (lesser least (far_at far r)) row
