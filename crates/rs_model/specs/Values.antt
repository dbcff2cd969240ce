-- Public: a value of each sort that says nothing.
use Rattle.std.specs.Prelude.{[], false, pos}
use Rattle.rs_model.specs.declared.values.Sort.{Sort}
use Rattle.rs_model.specs.declared.values.Sort.TheVariants as sort
use Rattle.rs_model.specs.declared.values.Value.{Value}
use Rattle.rs_model.specs.declared.values.Value.TheVariants as value

-- nothing, false, 0 or an empty list, by the sort
abbrev pub empty_value : Sort → Value
empty_value sort.Unit = value.Unit
empty_value sort.Flag = value.Flag false
empty_value sort.Natural = value.Natural 0
empty_value sort.Whole = value.Whole (pos 0)
empty_value sort.Octets = value.Octets []
empty_value sort.Numbers = value.Numbers []
