-- Public: what a value carries, by its sort. A value of another sort carries something empty.
use Rattle.std.specs.Prelude.{ℕ, ℤ, pos, List, [], Bool, false}
use Rattle.rs_model.specs.declared.values.Value.{Value}
use Rattle.rs_model.specs.declared.values.Value.TheVariants as value

-- the truth value that a value of the sort `bool` carries, and false of any other value
abbrev pub flag_of : Value → Bool
flag_of (value.Flag flag) = flag
flag_of _ = false

-- the number that a value of the sort `int` carries, where a natural number is taken as that number; 0 of any other value
abbrev pub whole_of : Value → ℤ
whole_of (value.Whole number) = number
whole_of (value.Natural number) = pos number
whole_of _ = pos 0

-- the bytes that a value of the sort `bytes` carries, and no bytes of any other value
abbrev pub octets_of : Value → List ℕ
octets_of (value.Octets octets) = octets
octets_of _ = []

-- the numbers that a value of the sort `list` carries, and no numbers of any other value
abbrev pub numbers_of : Value → List ℤ
numbers_of (value.Numbers numbers) = numbers
numbers_of _ = []
