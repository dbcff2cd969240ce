-- Headline: which values a sort has.
use Rattle.std.specs.Prelude.{Bool, true, false, IsTrue, nat_lt, ◌^◌}
use Rattle.rs_model.specs.declared.values.Sort.{Sort}
use Rattle.rs_model.specs.declared.values.Sort.TheVariants as sort
use Rattle.rs_model.specs.declared.values.Value.{Value}
use Rattle.rs_model.specs.declared.values.Value.TheVariants as value

-- the value is of the sort's own kind, or a natural number for an `int`; and a natural number is below 2^63
abbrev pub fits : Value → Sort → Bool
fits value.Unit sort.Unit = true
fits (value.Flag _) sort.Flag = true
fits (value.Natural n) sort.Natural = nat_lt n (2 ^ 63)
fits (value.Natural n) sort.Whole = nat_lt n (2 ^ 63)
fits (value.Whole _) sort.Whole = true
fits (value.Octets _) sort.Octets = true
fits (value.Numbers _) sort.Numbers = true
fits _ _ = false

-- the value has the sort
abbrev pub HasSort : Value → Sort → Type 0
HasSort v s = IsTrue (fits v s)
