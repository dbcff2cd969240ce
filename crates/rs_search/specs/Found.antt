-- Public: what is known of the candidates that were found.
use Rattle.std.specs.Prelude.{◌≡◌, ℕ, ◌<◌, ◌≤◌, ◌^◌, List, [], length, map, slice_index_or}
use Rattle.std.specs.List.{list_any}
use Rattle.rs_derive.specs.Moves.{Spot}
use Rattle.rs_graph.specs.Built.{IsBuilt}
use Rattle.rs_graph.specs.Discovery.{IsDiscovery}
use Rattle.rs_graph.specs.Removal.{IsRemoval, at, moves_at}
use Rattle.rs_model.specs.Data.{Machine_data}
use Rattle.rs_model.specs.declared.limits.TheConstants.{MOST_CANDIDATES}
use Rattle.rs_search.specs.Candidates.{start_spot}
use Rattle.rs_search.specs.Turns.{is_any, is_choosing, is_cut, is_keeping, nexts_within}
use Rattle.rs_search.specs.declared.found.Candidates.{Candidates}
use Rattle.rs_search.specs.declared.survivors.Survivors.{Survivors}

-- what is noted of these spots: of each what it leads to, whether it may choose, and whether its edges keep the oldest act that
-- is owed; and whether some one meets a cut, and whether some one chooses
pub record AreNotedCandidates (sub above : Machine_data) (bound : ℕ) (spots : List Spot) (d : Candidates) : Type 0 where
  pub short : (n : ℕ) → length (slice_index_or d.table.rows n []) ≤ 2 ^ 16
  pub anys : d.anys.items ≡ map (is_any sub above bound) spots
  pub keeps : d.keeps.items ≡ map (is_keeping sub above bound) spots
  pub cut : d.cut ≡ list_any (is_cut sub above bound) spots
  pub choosing : d.choosing ≡ list_any (is_choosing sub above bound) spots

-- all candidates within the bound, numbered in order of first sight, with what each leads to
pub record AreFoundCandidates (sub above : Machine_data) (bound : ℕ) (d : Candidates) : Type 0 where
  pub discovery : IsDiscovery (nexts_within sub above bound) (start_spot sub above) d.table.spots d.table.rows
  pub noted : AreNotedCandidates sub above bound d.table.spots d

-- all candidates, no more than there may be, their graph, and what is left of it, among which is the start
pub record AreSurvivors (sub above : Machine_data) (bound : ℕ) (s : Survivors) : Type 0 where
  pub found : AreFoundCandidates sub above bound s.found
  pub bounded : length s.found.table.spots ≤ MOST_CANDIDATES
  pub built : IsBuilt s.found.anys.items s.found.table.rows (length s.found.table.rows) s.graph
  pub left : IsRemoval s.graph.outs s.left.current.items s.left.order.items
  pub start : at s.left.current.items 0 < moves_at s.graph.outs 0
