-- Steps: what is known while a machine is swapped.
use Rattle.std.specs.Prelude.{◌≡◌, ℕ, ◌<◌, ◌≤◌, List, length, Option, None, Some, slice_get}
use Rattle.rs_model.specs.Data.{Machine_data}
use Rattle.rs_model.specs.declared.limits.TheConstants.{MOST_STATES}
use Rattle.rs_graph.specs.Naming.{AreNamed, Grown}
use Rattle.rs_improve.specs.Swaps.{Exchange_data, HasNoExchange, IsExchange, IsLeastExchange, IsSwappable}
use Rattle.rs_improve.specs.declared.swaps.SwappedState.{SwappedState}
use Rattle.rs_improve.specs.declared.swaps.SwappedState.TheVariants.{New, Old}

-- the exchange at a state, or none
abbrev pub IsExchangeAt : Machine_data → ℕ → Option Exchange_data → Type 0
IsExchangeAt machine state None = IsSwappable machine state → ⊥
IsExchangeAt machine state (Some x) = IsExchange machine x × (x.state ≡ state)

-- the exchange at the least state that can be swapped, or none
abbrev pub IsLeastIn : Machine_data → Option Exchange_data → Type 0
IsLeastIn machine None = HasNoExchange machine
IsLeastIn machine (Some x) = IsLeastExchange machine x

-- what the tables have for a state: the old ones by their numbers, the new ones by theirs
abbrev pub number_slot : List (Option ℕ) → List (Option ℕ) → SwappedState → Option (Option ℕ)
number_slot olds news (Old n) = slice_get olds n
number_slot olds news (New n) = slice_get news n

-- the state has a place in tables of these sizes
abbrev pub HasSlot : ℕ → ℕ → SwappedState → Type 0
HasSlot olds news (Old n) = n < olds
HasSlot olds news (New n) = n < news

-- the tables have the place of each state that is found, and no others
pub record AreNumberedIn (found : List SwappedState) (olds news : List (Option ℕ)) : Type 0 where
  pub to : (n : ℕ) (s : SwappedState) → slice_get found n ≡ Some s → number_slot olds news s ≡ Some (Some n)
  pub from : (n : ℕ) (s : SwappedState) → number_slot olds news s ≡ Some (Some n) → slice_get found n ≡ Some s

-- several states were named by these numbers, or more are found than there may be
abbrev pub AreNamedWithin : List SwappedState → List SwappedState → List SwappedState → Option (List ℕ) → Type 0
AreNamedWithin old ys new None = Grown old ys new × (MOST_STATES < length new)
AreNamedWithin old ys new (Some row) = AreNamed old ys new row × (length new ≤ MOST_STATES)
