-- Steps: the candidates that are found so far.
use Rattle.std.specs.Prelude.{ℕ, length, take}
use Rattle.rs_graph.specs.Naming.{Growing}
use Rattle.rs_model.specs.Data.{Machine_data}
use Rattle.rs_search.specs.Candidates.{start_spot}
use Rattle.rs_search.specs.Found.{AreNotedCandidates}
use Rattle.rs_search.specs.Turns.{nexts_within}
use Rattle.rs_search.specs.declared.found.Candidates.{Candidates}

-- the candidates within the bound that are found so far, of the first of which it is known what they lead to
pub record AreFoundSoFar (sub above : Machine_data) (bound : ℕ) (d : Candidates) : Type 0 where
  pub growing : Growing (nexts_within sub above bound) (start_spot sub above) d.table.spots d.table.rows
  pub noted : AreNotedCandidates sub above bound (take (length d.table.rows) d.table.spots) d
