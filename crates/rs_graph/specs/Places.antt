-- Public: numbers of nodes by first discovery.
use Rattle.std.specs.Prelude.{◌≡◌, ℕ, List, [], slice_get, slice_index_or, Option, Some}
use Rattle.rs_graph.specs.Removal.{at}

-- what the move at which a node stays leads to
abbrev pub next_of : List (List (List ℕ)) → List ℕ → ℕ → List ℕ
next_of outs current n = slice_index_or (slice_index_or outs n []) (at current n) []

-- each node that has a number is the item of that number
pub record IsPlaced (items : List ℕ) (places : List (Option ℕ)) : Type 0 where
  pub to : (n x : ℕ) → slice_get items n ≡ Some x → slice_get places x ≡ Some (Some n)
  pub from : (x n : ℕ) → slice_get places x ≡ Some (Some n) → slice_get items n ≡ Some x
