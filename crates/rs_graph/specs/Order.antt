-- Headline: lists without repetition, and numbers in order of discovery.
use Rattle.std.specs.Prelude.{◌≡◌, ℕ, suc, ◌<◌, List, [], ◌∷◌, Some, slice_get}

-- no item is in the list twice
abbrev pub Once : {X : Type 0} → List X → Type 0
Once {X} xs = (i j : ℕ) (x : X) → slice_get xs i ≡ Some x → slice_get xs j ≡ Some x → i ≡ j

-- n are known; each number is that of a known one, or of the next new one
pub data Numbered : ℕ → List ℕ → ℕ → Type 0 where
  NoMore : (known : ℕ) → Numbered known [] known
  Known : (known n after : ℕ) (ns : List ℕ) → n < known → Numbered known ns after → Numbered known (n ∷ ns) after
  New : (known after : ℕ) (ns : List ℕ) → Numbered (suc known) ns after → Numbered known (known ∷ ns) after

-- the rows from number k on are worked on in order, each known before; n are known in the end
pub data Worked : ℕ → ℕ → List (List ℕ) → ℕ → Type 0 where
  AllDone : (k known : ℕ) → Worked k known [] known
  Next : (k known mid after : ℕ) (row : List ℕ) (rows : List (List ℕ)) → k < known → Numbered known row mid → Worked (suc k) mid rows after → Worked k known (row ∷ rows) after
