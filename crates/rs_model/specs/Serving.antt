-- Public: which sort may stand where another is expected.
use Rattle.std.specs.Prelude.{◌≡◌, ◌⊎◌, ℕ, Bool, ◌==◌, ◌&&◌, ◌||◌}
use Rattle.rs_model.specs.declared.values.Sort.{Sort}
use Rattle.rs_model.specs.declared.values.Sort.TheVariants as sort

-- a value of sort a may stand where one of sort b is expected: the sorts are equal, or a `nat` stands for an `int`
abbrev pub Serves : Sort → Sort → Type 0
Serves a b = (a ≡ b) ⊎ ((a ≡ sort.Natural) × (b ≡ sort.Whole))

-- each sort by a number of its own
abbrev pub sort_number : Sort → ℕ
sort_number sort.Unit = 0
sort_number sort.Flag = 1
sort_number sort.Natural = 2
sort_number sort.Whole = 3
sort_number sort.Octets = 4
sort_number sort.Numbers = 5

-- the test of it
abbrev pub serves : Sort → Sort → Bool
serves a b = (sort_number a == sort_number b) || ((sort_number a == sort_number sort.Natural) && (sort_number b == sort_number sort.Whole))
