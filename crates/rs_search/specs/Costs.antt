-- Public: what the search may cost.
use Rattle.std.specs.Prelude.{◌≡◌, ℕ, ◌+◌, ◌*◌, ◌≤◌, List, length}
use Rattle.std.specs.List.{sum_by}
use Rattle.rs_model.specs.Data.{Machine_data}
use Rattle.rs_derive.specs.Moves.{Spot}
use Rattle.rs_graph.specs.Lists.{Among}
use Rattle.rs_graph.specs.Order.{Once}
use Rattle.rs_search.specs.Candidates.{IsCandidate, MoveWithin}
use Rattle.rs_search.specs.Turns.{nexts_within}
use Rattle.rs_search.specs.declared.faults.SearchFault.{SearchFault}
use Rattle.rs_search.specs.declared.faults.SearchFault.TheVariants.{NotFound, Forgets, TooLarge, NoMemory}

-- all candidates, each once
pub record AreCandidates (sub above : Machine_data) (bound : ℕ) (spots : List Spot) : Type 0 where
  pub once : Once spots
  pub to : (p : Spot) → Among spots p → IsCandidate sub above bound p
  pub from : (p : Spot) → IsCandidate sub above bound p → Among spots p

-- all moves of the spot within the bound, each once: the results of each
pub record AreMovesWithin (sub above : Machine_data) (bound : ℕ) (p : Spot) (moves : List (List Spot)) : Type 0 where
  pub once : Once moves
  pub to : (results : List Spot) → Among moves results → MoveWithin sub above bound p results
  pub from : (results : List Spot) → MoveWithin sub above bound p results → Among moves results

-- how many results all moves of the spots have together
abbrev pub results_of : Machine_data → Machine_data → ℕ → List Spot → ℕ
results_of sub above bound spots = sum_by (λ (p : Spot). length (nexts_within sub above bound p)) spots

-- the steps between are at most two for each result of a move of a candidate, and one for each candidate
pub record IsWithinCost (sub above : Machine_data) (bound before after : ℕ) : Type 0 where
  pub spots : List Spot
  pub are : AreCandidates sub above bound spots
  pub most : after ≤ before + (2 * results_of sub above bound spots + length spots)

-- what an answer without a derivation costs; want of memory says nothing
abbrev pub Costs : Machine_data → Machine_data → ℕ → SearchFault → ℕ → ℕ → Type 0
Costs sub above bound (NotFound cut) before after = IsWithinCost sub above bound before after
Costs sub above bound (Forgets node) before after = IsWithinCost sub above bound before after
Costs sub above bound TooLarge before after = after ≡ before
Costs sub above bound NoMemory before after = Unit {0}
