-- Public: counts of faults.
use Rattle.std.specs.Prelude.{◌≡◌, ℕ, Bool, ◌+◌, ◌-◌, ◌^◌, ◌<◌, ◌≤◌, ◌==◌, min, List, ◌⊎◌}
use Rattle.std.specs.List.{list_any}

-- one more, up to the last value of a u64
abbrev pub one_count_more : ℕ → ℕ
one_count_more n = min (n + 1) (2 ^ 64 - 1)

-- the count is the last value of a u64
abbrev pub IsLast : ℕ → Type 0
IsLast n = n ≡ 2 ^ 64 - 1

-- the count rose, or it can't rise any more
abbrev pub Rose : ℕ → ℕ → Type 0 → Type 0
Rose before now last_now = (before < now) ⊎ last_now

-- the count never falls, and stays at its last value
pub record NeverFalls (before now : ℕ) (last_before last_now : Type 0) : Type 0 where
  pub later : before ≤ now
  pub stays : last_before → last_now

-- the number of a call is listed
abbrev pub is_listed : ℕ → List ℕ → Bool
is_listed call failing = list_any (λ n. n == call) failing
