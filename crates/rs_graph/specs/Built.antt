-- Public: the graph of numbered items: of each the moves, and the numbers of their results.
use Rattle.std.specs.Prelude.{◌≡◌, ℕ, ◌<◌, ◌≤◌, Bool, false, List, [], length, slice_index_or}
use Rattle.rs_graph.specs.Graphs.{Graph_data}
use Rattle.rs_graph.specs.Removal.{IsInto}
use Rattle.rs_graph.specs.Graphs.{moves_of}

-- the first n nodes have their moves, the others none
pub record IsBuilt (anys : List Bool) (rows : List (List ℕ)) (count : ℕ) (g : Graph_data) : Type 0 where
  pub size : length g.outs ≡ length rows
  pub done : (i : ℕ) → i < count → slice_index_or g.outs i [] ≡ moves_of (slice_index_or anys i false) (slice_index_or rows i [])
  pub free : (i : ℕ) → count ≤ i → slice_index_or g.outs i [] ≡ []
  pub into : IsInto g.outs g.intos
