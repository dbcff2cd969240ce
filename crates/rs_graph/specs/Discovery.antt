-- Public: discovery: what is reached from a start, numbered in order of first sight.
use Rattle.std.specs.Prelude.{◌≡◌, ℕ, List, length, Some, slice_get}
use Rattle.rs_graph.specs.Lists.{Among, ArePlacesOf}
use Rattle.rs_graph.specs.Order.{Once, Worked}

-- the least set that has the start and, with each x, all of next x
pub data Reached {X : Type 0} (next : X → List X) (start : X) : X → Type 0 where
  Begin : Reached next start start
  Step : (x y : X) → Reached next start x → Among (next x) y → Reached next start y

-- the items that are reached, each once and numbered in order of first sight, with the numbers of what each leads to
pub record IsDiscovery {X : Type 0} (next : X → List X) (start : X) (found : List X) (rows : List (List ℕ)) : Type 0 where
  pub first : slice_get found 0 ≡ Some start
  pub once : Once found
  pub all : length rows ≡ length found
  pub names : (k : ℕ) (x : X) (row : List ℕ) → slice_get found k ≡ Some x → slice_get rows k ≡ Some row → ArePlacesOf found row (next x)
  pub reached : (n : ℕ) (x : X) → slice_get found n ≡ Some x → Reached next start x
  pub order : Worked 0 1 rows (length found)
