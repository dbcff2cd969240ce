-- Steps: ranks along edges that all lead to greater numbers, from the last number to the first.
use Rattle.std.specs.Prelude.{◌≡◌, ℕ, ◌+◌, ◌<◌, ◌≤◌, List, [], length, slice_index_or, Bool, false, if◌then◌else◌}
use Rattle.rs_graph.specs.Lists.{Among}
use Rattle.rs_graph.specs.RanksSoFar.{RankFits}

-- what is kept of a row
abbrev pub kept_row : Bool → List ℕ → List ℕ
kept_row keeps row = if keeps then row else []

-- what is kept of the row of a number
abbrev pub kept_row_of : List Bool → List (List ℕ) → ℕ → List ℕ
kept_row_of keeps rows n = kept_row (slice_index_or keeps n false) (slice_index_or rows n [])

-- the numbers from that one on have their ranks, and what is kept of their rows leads to greater numbers
pub record AreForward (keeps : List Bool) (rows : List (List ℕ)) (ranks : List ℕ) (from : ℕ) : Type 0 where
  pub size : length ranks ≡ length rows
  pub fits : (n : ℕ) → from ≤ n → n < length rows → RankFits (kept_row_of keeps rows n) ranks (slice_index_or ranks n 0)
  pub on : (n j : ℕ) → from ≤ n → n < length rows → Among (kept_row_of keeps rows n) j → n < j
  pub low : (n : ℕ) → from ≤ n → n < length rows → slice_index_or ranks n 0 + n < length rows
