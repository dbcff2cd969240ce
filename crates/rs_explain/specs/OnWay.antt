-- Steps: walks that go nearer to an end with each step, by numbers.
use Rattle.std.specs.Prelude.{◌≡◌, ℕ, suc, ◌+◌, ◌<◌, ◌≤◌, Bool, true, false, List, [], ◌∷◌, length, slice_get, slice_index_or, Option, Some, None}
use Rattle.rs_model.specs.Data.{Machine_data}
use Rattle.rs_model.specs.declared.machines.Act.{Act}
use Rattle.rs_model.specs.declared.machines.State.{State}
use Rattle.rs_derive.specs.Moves.{Spot}
use Rattle.rs_explain.specs.Distances.{IsNear, far_at, flag_at}
use Rattle.rs_explain.specs.ObstacleAt.{obstacle_at}
use Rattle.rs_explain.specs.Walks.{Dies, WalkStep_data}
use Rattle.rs_explain.specs.declared.explaining.Ending.{Ending}
use Rattle.rs_explain.specs.declared.explaining.Ending.TheVariants.{Blocked, Cut}
use Rattle.rs_explain.specs.declared.obstacles.Obstacle.{Obstacle}
use Rattle.rs_graph.specs.Built.{IsBuilt}
use Rattle.rs_graph.specs.Graphs.{Graph_data}
use Rattle.rs_graph.specs.Lists.{Among}
use Rattle.rs_search.specs.Survives.{Survives}
use Rattle.rs_search.specs.declared.found.Candidates.{Candidates}

-- of each spot its flag tells whether it is one of these
pub record AreFlagged (These : Spot → Type 0) (spots : List Spot) (flags : List Bool) : Type 0 where
  pub size : length flags ≡ length spots
  pub yes : (n : ℕ) (x : Spot) → slice_get spots n ≡ Some x → flag_at flags n ≡ true → These x
  pub all : (n : ℕ) (x : Spot) → slice_get spots n ≡ Some x → These x → flag_at flags n ≡ true

-- the first so many flags are what the function tells
pub record AreFlags (f : ℕ → Bool) (count : ℕ) (flags : List Bool) : Type 0 where
  pub size : length flags ≡ count
  pub each : (n : ℕ) → n < count → flag_at flags n ≡ f n

-- the graph of the candidates, and which of them don't survive
pub record IsLostGraph (sub above : Machine_data) (bound : ℕ) (found : Candidates) (graph : Graph_data) (gone : List Bool) : Type 0 where
  pub built : IsBuilt found.anys.items found.table.rows (length found.table.rows) graph
  pub dead : AreFlagged (Dies sub above bound) found.table.spots gone
  pub alive : (n : ℕ) (x : Spot) → slice_get found.table.spots n ≡ Some x → flag_at gone n ≡ false → Survives sub above bound x

-- rows of numbers, along which distances can go down to 0
pub record AreDownhill (count : ℕ) (rows : List (List ℕ)) (far : List (Option ℕ)) : Type 0 where
  pub rows_size : length rows ≡ count
  pub size : length far ≡ count
  pub within : (n r : ℕ) → Among (slice_index_or rows n []) r → r < count
  pub tight : (n d : ℕ) → far_at far n ≡ Some (suc d) → (r : ℕ) × Among (slice_index_or rows n []) r × (far_at far r ≡ Some d)

-- steps and ends by numbers: the row of each number tells where the steps from its spot go, from a place on, and far how many steps it is from an end
pub record AreCharted (Goes : Spot → ℕ → Spot → Type 0) (Ends : Spot → Type 0) (spots : List Spot) (bases : ℕ → ℕ) (rows : List (List ℕ)) (far : List (Option ℕ)) : Type 0 where
  pub downhill : AreDownhill (length spots) rows far
  pub goes : (n i r d : ℕ) (x y : Spot) → slice_get spots n ≡ Some x → far_at far n ≡ Some d → slice_get (slice_index_or rows n []) i ≡ Some r
      → slice_get spots r ≡ Some y → Goes x (bases n + i) y
  pub named : (n place : ℕ) (x y : Spot) → slice_get spots n ≡ Some x → Goes x place y
      → (i r : ℕ) × (bases n + i ≤ place) × (slice_get (slice_index_or rows n []) i ≡ Some r) × (slice_get spots r ≡ Some y)
  pub ends : (n : ℕ) (x : Spot) → slice_get spots n ≡ Some x → Ends x → far_at far n ≡ Some 0
  pub only : (n : ℕ) (x : Spot) → slice_get spots n ≡ Some x → far_at far n ≡ Some 0 → Ends x
  pub on : (n place i r d : ℕ) (x y : Spot) → slice_get spots n ≡ Some x → Goes x place y → slice_get (slice_index_or rows n []) i ≡ Some r
      → far_at far r ≡ Some d → IsNear far n (suc d)

-- the number at the place is the first of the row with that distance
pub record IsFirstAt (far : List (Option ℕ)) (row : List ℕ) (distance place : ℕ) : Type 0 where
  pub number : ℕ
  pub stands : slice_get row place ≡ Some number
  pub far_is : far_at far number ≡ Some distance
  pub before : (i k : ℕ) → i < place → slice_get row i ≡ Some k → far_at far k ≡ Some distance → ⊥

-- the step from number n goes to the spot of r, by the first place of the row with that distance
pub record IsStepTo (spots : List Spot) (base : ℕ) (row : List ℕ) (far : List (Option ℕ)) (distance r : ℕ) (s : WalkStep_data) : Type 0 where
  pub index : ℕ
  pub first : IsFirstAt far row distance index
  pub number_is : first.number ≡ r
  pub place_is : s.place ≡ base + index
  pub spot_is : slice_get spots r ≡ Some s.spot

-- each step goes one nearer, until the last number, which is at the distance 0
abbrev pub GoNearer : List Spot → (ℕ → ℕ) → List (List ℕ) → List (Option ℕ) → ℕ → List WalkStep_data → ℕ → Type 0
GoNearer spots bases rows far n [] last = (far_at far n ≡ Some 0) × (last ≡ n)
GoNearer spots bases rows far n (s ∷ later) last =
    (d r : ℕ) × (far_at far n ≡ Some (suc d)) × IsStepTo spots (bases n) (slice_index_or rows n []) far d r s × GoNearer spots bases rows far r later last

-- the obstacle, where the machine stands at a state
abbrev pub obstacle_from : List Act → Option State → Option State → Option Obstacle
obstacle_from pending None there = None
obstacle_from pending (Some s) there = obstacle_at pending s there

-- a dead end without an obstacle is a cut
abbrev pub ending_by : Option Obstacle → Ending
ending_by None = Cut
ending_by (Some o) = Blocked o

-- why a dead end has no move within the bound
abbrev pub ending_at : Machine_data → Machine_data → Spot → Ending
ending_at sub above p = ending_by (obstacle_from p.pending (slice_get sub.states p.state) (slice_get above.states p.above))

-- whether a dead end is a cut
abbrev pub is_cut_ending : Ending → Bool
is_cut_ending Cut = true
is_cut_ending (Blocked o) = false

-- whether the spot would be a cut, as a dead end
abbrev pub has_cut_at : Machine_data → Machine_data → Spot → Bool
has_cut_at sub above p = is_cut_ending (ending_at sub above p)
