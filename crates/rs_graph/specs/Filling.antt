-- Steps: one node of a graph is filled.
use Rattle.std.specs.Prelude.{◌≡◌, ◌≢◌, ℕ, List, [], length, slice_index_or}
use Rattle.rs_graph.specs.Graphs.{Graph_data}
use Rattle.rs_graph.specs.Removal.{IsInto}

-- node n has these moves, all others have what they had
pub record IsFilled (old new : Graph_data) (n : ℕ) (moves : List (List ℕ)) : Type 0 where
  pub size : length new.outs ≡ length old.outs
  pub here : slice_index_or new.outs n [] ≡ moves
  pub others : (i : ℕ) → i ≢ n → slice_index_or new.outs i [] ≡ slice_index_or old.outs i []
  pub into : IsInto new.outs new.intos
