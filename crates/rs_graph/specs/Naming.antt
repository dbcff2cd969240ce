-- Steps: what holds while items are named.
use Rattle.std.specs.Prelude.{◌≡◌, ◌⊎◌, ℕ, ◌<◌, ◌≤◌, List, [], ◌∷◌, ◌++◌, length, Some, slice_get}
use Rattle.rs_graph.specs.Lists.{Among, ArePlacesOf}
use Rattle.rs_graph.specs.Order.{Once, Numbered, Worked}
use Rattle.rs_graph.specs.Discovery.{Reached}

-- more than n are reached
pub record MoreThan {X : Type 0} (limit : ℕ) (next : X → List X) (start : X) : Type 0 where
  pub some : List X
  pub once : Once some
  pub reached : (i : ℕ) (x : X) → slice_get some i ≡ Some x → Reached next start x
  pub many : limit < length some

-- the list after one item was named: it had the item, or the item is now at its end
abbrev pub Adds : {X : Type 0} → List X → X → List X → Type 0
Adds {X} old y new = (new ≡ old) ⊎ ((Among old y → ⊥) × (new ≡ old ++ (y ∷ [])))

-- one item was named by this number: the list had it there, or it is now at the list's end
pub record IsNamed {X : Type 0} (old : List X) (y : X) (new : List X) (n : ℕ) : Type 0 where
  pub adds : Adds old y new
  pub longer : length old ≤ length new
  pub at : slice_get new n ≡ Some y
  pub known : new ≡ old → n < length old
  pub fresh : (new ≡ old → ⊥) → n ≡ length old

-- a list after several items were named
pub record Grown {X : Type 0} (old ys new : List X) : Type 0 where
  pub once : Once old → Once new
  pub only : (n : ℕ) (x : X) → slice_get new n ≡ Some x → (slice_get old n ≡ Some x) ⊎ Among ys x
  pub kept : (n : ℕ) (x : X) → slice_get old n ≡ Some x → slice_get new n ≡ Some x

-- several items were named by these numbers, and the new ones stand at the end
pub record AreNamed {X : Type 0} (old ys new : List X) (row : List ℕ) : Type 0 where
  pub grown : Grown old ys new
  pub names : ArePlacesOf new row ys
  pub numbered : Numbered (length old) row (length new)
  pub longer : length old ≤ length new

-- what is found so far
pub record Growing {X : Type 0} (next : X → List X) (start : X) (found : List X) (rows : List (List ℕ)) : Type 0 where
  pub first : slice_get found 0 ≡ Some start
  pub once : Once found
  pub reached : (n : ℕ) (x : X) → slice_get found n ≡ Some x → Reached next start x
  pub names : (k : ℕ) (x : X) (row : List ℕ) → slice_get found k ≡ Some x → slice_get rows k ≡ Some row → ArePlacesOf found row (next x)
  pub order : Worked 0 1 rows (length found)
  pub ahead : length rows ≤ length found
