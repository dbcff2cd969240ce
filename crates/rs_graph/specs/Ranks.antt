-- Public: ranks over the rows of a graph, along an order in which each number comes after all that its row leads to.
use Rattle.std.specs.Prelude.{◌≡◌, ℕ, ◌<◌, List, [], length, Some, slice_get, slice_index_or}
use Rattle.rs_graph.specs.Lists.{Among}
use Rattle.rs_graph.specs.Order.{Once}

-- the row of i leads to j
abbrev pub Edge : List (List ℕ) → ℕ → ℕ → Type 0
Edge rows i j = Among (slice_index_or rows i []) j

-- a number is in the order before that place
pub record Earlier (order : List ℕ) (n before : ℕ) : Type 0 where
  pub index : ℕ
  pub stands : slice_get order index ≡ Some n
  pub early : index < before

-- the order has numbers of rows, each once, and each after all that its row leads to
pub record IsOrdered (rows : List (List ℕ)) (order : List ℕ) : Type 0 where
  pub within : (i n : ℕ) → slice_get order i ≡ Some n → n < length rows
  pub ends : (i n j : ℕ) → slice_get order i ≡ Some n → Edge rows n j → Earlier order j i
  pub once : Once order
