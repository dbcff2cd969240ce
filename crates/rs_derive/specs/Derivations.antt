-- Public: a derivation of a machine from its projection, and that it forgets nothing owed.
use Rattle.std.specs.Prelude.{◌≡◌, ◌≢◌, ℕ, ◌<◌, ◌≤◌, List, [], ◌∷◌, length, slice_get, Option, Some}
use Rattle.rs_model.specs.Data.{Machine_data}
use Rattle.rs_model.specs.WellFormed.{IsWellFormedMachine}
use Rattle.rs_model.specs.declared.machines.Act.{Act}
use Rattle.rs_derive.specs.Data.{DNode_data, Derivation_data}
use Rattle.rs_derive.specs.Moves.{Spot, spot, HasMove}

-- the spot of a node
abbrev pub spot_of : DNode_data → Spot
spot_of n = spot n.state n.pending n.above

-- the machine is well formed among some number of roles
abbrev pub IsProper : Machine_data → Type 0
IsProper machine = (roles : ℕ) × IsWellFormedMachine machine roles

-- the numbers name nodes that are the results, in order and in number
abbrev pub NameResults : List DNode_data → List ℕ → List Spot → Type 0
NameResults nodes [] [] = Unit {0}
NameResults nodes [] (r ∷ rs) = ⊥
NameResults nodes (j ∷ js) [] = ⊥
NameResults nodes (j ∷ js) (r ∷ rs) = ((m : DNode_data) × (slice_get nodes j ≡ Some m) × (spot_of m ≡ r)) × NameResults nodes js rs

-- the node names states of both machines, owes no more than the bound, and names the results of a move that it has
pub record NodeFits (nodes : List DNode_data) (bound : ℕ) (sub above : Machine_data) (n : DNode_data) : Type 0 where
  pub state : n.state < length sub.states
  pub present : n.above < length above.states
  pub short : length n.pending ≤ bound
  pub makes : Option ℕ
  pub results : List Spot
  pub move : HasMove sub above (spot_of n) makes results
  pub named : NameResults nodes n.next results

-- the first node is the start of both with nothing owed, and each node fits
pub record IsDerivation (d : Derivation_data) (sub above : Machine_data) : Type 0 where
  pub first : DNode_data
  pub stands : slice_get d.nodes 0 ≡ Some first
  pub starts : spot_of first ≡ spot sub.start [] above.start
  pub each : (i : ℕ) (n : DNode_data) → slice_get d.nodes i ≡ Some n → NodeFits d.nodes d.bound sub above n

-- something is owed, and the move doesn't make the oldest act that is owed
pub record KeepsItsHead (pending : List Act) (makes : Option ℕ) : Type 0 where
  pub owes : pending ≢ []
  pub other : makes ≢ Some 0

-- on each edge that keeps its head the rank falls
pub record Remembers (d : Derivation_data) (sub above : Machine_data) : Type 0 where
  pub falls : (i : ℕ) (n : DNode_data) (makes : Option ℕ) (results : List Spot) → slice_get d.nodes i ≡ Some n
      → HasMove sub above (spot_of n) makes results → KeepsItsHead n.pending makes
      → (k j : ℕ) (m : DNode_data) → slice_get n.next k ≡ Some j → slice_get d.nodes j ≡ Some m → m.rank < n.rank
