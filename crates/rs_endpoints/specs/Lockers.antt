-- Steps: the rule of a locker, a table of one word and one slot.
use Rattle.std.specs.Prelude.{◌≡◌, ℕ, List, [], ◌∷◌, Option, Some, None, length, slice_index}
use mathlib.Core.Option.{some}
use lib.ListN.{get_elem?}
use Rattle.atomic_table.specs.Table.{State, Me}

module _ {T V : Type 0} where
  -- where the word is 1 the slot is at home and empty; where it is 2 a value lies in it, and fits; else nothing is known of it
  pub record IsKept (fits : T → Type 0) (s : State (Option T) V) : Type 0 where
    pub one_word : length s.words ≡ 1
    pub empty : slice_index s.words 0 ≡ 1 → get_elem? s.homes 0 ≡ some (some None)
    pub filled : slice_index s.words 0 ≡ 2 → (value : T) × (get_elem? s.homes 0 ≡ some (some (Some value))) × fits value

  -- what a seat has that found n in the word: the slot, unless its content was out
  pub record HasOpened (fits : T → Type 0) (n : ℕ) (m : Me (Option T) V) : Type 0 where
    pub empty : n ≡ 1 → m.1 ≡ (0, None) ∷ []
    pub filled : n ≡ 2 → (value : T) × (m.1 ≡ (0, Some value) ∷ []) × fits value

  -- a seat that holds the slot alone
  abbrev pub HoldsSlot : Me (Option T) V → Type 0
  HoldsSlot m = (content : Option T) × (m.1 ≡ (0, content) ∷ [])
