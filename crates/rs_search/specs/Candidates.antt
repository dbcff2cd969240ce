-- Public: the spots that a search within a bound may come to.
use Rattle.std.specs.Prelude.{◌≡◌, ℕ, ◌<◌, ◌≤◌, List, [], length, Option}
use Rattle.rs_model.specs.Data.{Machine_data}
use Rattle.rs_derive.specs.Moves.{Spot, spot, HasMove}
use Rattle.rs_graph.specs.Lists.{Among}
use Rattle.rs_graph.specs.Order.{Once}

-- both at their starts, with nothing owed
abbrev pub start_spot : Machine_data → Machine_data → Spot
start_spot sub above = spot sub.start [] above.start

-- a move of the spot of which no result owes more than the bound
pub record MoveWithin (sub above : Machine_data) (bound : ℕ) (p : Spot) (results : List Spot) : Type 0 where
  pub makes : Option ℕ
  pub move : HasMove sub above p makes results
  pub short : (r : Spot) → Among results r → length r.pending ≤ bound

-- the least set that has the start, and with each spot all results of all its moves within the bound
pub data IsCandidate (sub above : Machine_data) (bound : ℕ) : Spot → Type 0 where
  Start : IsCandidate sub above bound (start_spot sub above)
  Onward : (p : Spot) (results : List Spot) (r : Spot) → IsCandidate sub above bound p → MoveWithin sub above bound p results → Among results r
      → IsCandidate sub above bound r

-- the spot owes as much as the bound allows, and would owe more by a move that it has
pub record MeetsACut (sub above : Machine_data) (bound : ℕ) (p : Spot) : Type 0 where
  pub full : length p.pending ≡ bound
  pub makes : Option ℕ
  pub results : List Spot
  pub move : HasMove sub above p makes results
  pub result : Spot
  pub among : Among results result
  pub longer : bound < length result.pending

-- there are more candidates than the limit: more than that number of different ones are listed
pub record AreMoreThan (sub above : Machine_data) (bound limit : ℕ) : Type 0 where
  pub spots : List Spot
  pub each : (p : Spot) → Among spots p → IsCandidate sub above bound p
  pub once : Once spots
  pub many : limit < length spots
