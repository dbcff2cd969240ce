-- Headline: the ranges of what a search and a run are told.
use Rattle.std.specs.Prelude.{ℕ, ◌≤◌}
use Rattle.rs_model.specs.declared.limits.TheConstants.{MOST_BOUND, MOST_CAPACITY, MOST_WORKERS}

-- the number lies from the low one to the high one
abbrev pub IsFromTo : ℕ → ℕ → ℕ → Type 0
IsFromTo low high n = (low ≤ n) × (n ≤ high)

-- a search can be bounded by it: from one to the most
abbrev pub IsBound : ℕ → Type 0
IsBound n = IsFromTo 1 MOST_BOUND n

-- a ring can hold so many messages: from one to the most
abbrev pub IsCapacity : ℕ → Type 0
IsCapacity n = IsFromTo 1 MOST_CAPACITY n

-- so many workers can run a session together: from two to the most
abbrev pub IsCrew : ℕ → Type 0
IsCrew n = IsFromTo 2 MOST_WORKERS n
