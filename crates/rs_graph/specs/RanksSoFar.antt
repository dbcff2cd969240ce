-- Steps: what holds while ranks are found.
use Rattle.std.specs.Prelude.{◌≡◌, ◌⊎◌, ℕ, suc, ◌<◌, ◌≤◌, List, [], length, Some, slice_get, slice_index_or}
use Rattle.rs_graph.specs.Lists.{Among}

-- the rank is right, as those of the row are
pub record RankFits (row : List ℕ) (ranks : List ℕ) (rank : ℕ) : Type 0 where
  pub falls : (j : ℕ) → Among row j → slice_index_or ranks j 0 < rank
  pub tight : (rank ≡ 0) ⊎ ((j : ℕ) × Among row j × (rank ≡ suc (slice_index_or ranks j 0)))

-- the first n numbers of the order have their ranks
pub record Ranked (rows : List (List ℕ)) (order ranks : List ℕ) (count : ℕ) : Type 0 where
  pub size : length ranks ≡ length rows
  pub fits : (i n : ℕ) → i < count → slice_get order i ≡ Some n → RankFits (slice_index_or rows n []) ranks (slice_index_or ranks n 0)
  pub low : (i n : ℕ) → i < count → slice_get order i ≡ Some n → slice_index_or ranks n 0 ≤ i
