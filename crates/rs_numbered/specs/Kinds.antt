-- Public: kinds of values, by numbers.
use Rattle.std.specs.Prelude.{ℕ, pos, [], Option, Some, None, false, ◌==◌, if◌then◌else◌}
use Rattle.rs_model.specs.declared.values.Sort.{Sort}
use Rattle.rs_model.specs.declared.values.Sort.TheVariants as sort
use Rattle.rs_model.specs.declared.values.Value.{Value}
use Rattle.rs_model.specs.declared.values.Value.TheVariants as value

-- the number of the kind of a sort's values
abbrev pub kind_of : Sort → ℕ
kind_of sort.Unit = 0
kind_of sort.Flag = 1
kind_of sort.Natural = 2
kind_of sort.Whole = 3
kind_of sort.Octets = 4
kind_of sort.Numbers = 5

-- the number of a value's kind
abbrev pub kind_of_value : Value → ℕ
kind_of_value value.Unit = 0
kind_of_value (value.Flag _) = 1
kind_of_value (value.Natural _) = 2
kind_of_value (value.Whole _) = 3
kind_of_value (value.Octets _) = 4
kind_of_value (value.Numbers _) = 5

-- the number that a value is, where it is a natural one; else 0
abbrev pub natural_of : Value → ℕ
natural_of (value.Natural n) = n
natural_of _ = 0

-- a value of the kind with this number: the natural number itself, else one that says nothing
abbrev pub stand_in : ℕ → ℕ → Option Value
stand_in kind natural =
    if kind == 0 then Some value.Unit else if kind == 1 then Some (value.Flag false) else if kind == 2 then Some (value.Natural natural)
    else if kind == 3 then Some (value.Whole (pos 0)) else if kind == 4 then Some (value.Octets []) else if kind == 5 then Some (value.Numbers []) else None
