-- Steps: rows of numbers, the same the other way round, and what is reached along them.
use Rattle.std.specs.Prelude.{◌⊎◌, ℕ, ◌+◌, ◌<◌, ◌≤◌, Bool, List, [], ◌∷◌, ◌++◌, length, drop, slice_index_or, slice_set}
use Rattle.rs_graph.specs.Lists.{Among}
use Rattle.rs_graph.specs.Ranks.{Edge}
use Rattle.rs_graph.specs.Walks.{Walk}
use Rattle.rs_project.specs.Marks.{IsOn}

-- each row leads to numbers of rows
abbrev pub LeadWithin : List (List ℕ) → Type 0
LeadWithin rows = (n next : ℕ) → Edge rows n next → next < length rows

-- the rows of these numbers have one number more, n
abbrev pub with_back : List (List ℕ) → ℕ → List ℕ → List (List ℕ)
with_back back n [] = back
with_back back n (y ∷ ys) = with_back (slice_set back y (slice_index_or back y [] ++ n ∷ [])) n ys

-- the same for all numbers of all rows, of which the first has the number n
abbrev pub turned : ℕ → List (List ℕ) → List (List ℕ) → List (List ℕ)
turned n [] back = back
turned n (row ∷ rows) back = turned (n + 1) rows (with_back back n row)

-- node n is reached along the rows from a flagged start
pub record IsReachedAlong (rows : List (List ℕ)) (starts : List Bool) (n : ℕ) : Type 0 where
  pub start : ℕ
  pub begins : IsOn starts start
  pub steps : ℕ
  pub walk : Walk (Edge rows) start steps n

-- marks that spread so far: the nodes of `todo` are still to be gone on from, and those of `soon` are still to be marked
pub record Growing (rows : List (List ℕ)) (starts marks : List Bool) (todo soon : List ℕ) : Type 0 where
  pub sound : (n : ℕ) → IsOn marks n → IsReachedAlong rows starts n
  pub right : (n : ℕ) → Among soon n → IsReachedAlong rows starts n
  pub listed : (n : ℕ) → Among todo n → IsOn marks n
  pub begun : (n : ℕ) → IsOn starts n → IsOn marks n
  pub closed : (n next : ℕ) → IsOn marks n → Edge rows n next → IsOn marks next ⊎ (Among todo n ⊎ Among soon next)

-- the first so many of the marked nodes were gone on from
pub record GrownSoFar (rows : List (List ℕ)) (starts marks : List Bool) (numbers : List ℕ) (done : ℕ) (soon : List ℕ) : Type 0 where
  pub within : done ≤ length numbers
  pub growing : Growing rows starts marks (drop done numbers) soon
