-- Public: the actor that chooses by draws of a linear congruential generator. Its meaning is its number.
use Rattle.std.specs.Prelude.{ℕ, zero, suc, ◌+◌, ◌*◌, ◌/◌, ◌%◌, ◌^◌, ℤ, pos, ◌-ℤ◌, List, [], ◌∷◌, Option, Some, None, slice_get, length, ◌==◌}
use Rattle.rs_model.specs.declared.graph.Arm.{Arm}
use Rattle.rs_model.specs.declared.values.Sort.{Sort}
use Rattle.rs_model.specs.declared.values.Sort.TheVariants as sort
use Rattle.rs_model.specs.declared.values.Value.{Value}
use Rattle.rs_model.specs.declared.values.Value.TheVariants as value
use Rattle.rs_core.specs.Actors.{Behaviour}

-- the number that a draw leaves
abbrev pub after : ℕ → ℕ
after x = (x * 1103515245 + 12345) % 2 ^ 31

-- what it gives: a number below 32,768
abbrev pub draw : ℕ → ℕ
draw x = after x / 65536

-- the number that so many draws leave
abbrev pub after_many : ℕ → ℕ → ℕ
after_many zero x = x
after_many (suc many) x = after_many many (after x)

-- a draw as a whole number, from -16,384 to 16,383
abbrev pub draw_whole : ℕ → ℤ
draw_whole x = pos (draw x) -ℤ pos 16384

-- so many bytes, one draw each, and so many whole numbers
abbrev pub draw_octets : ℕ → ℕ → List ℕ
draw_octets zero x = []
draw_octets (suc many) x = draw x % 256 ∷ draw_octets many (after x)

-- so many whole numbers, one draw each
abbrev pub draw_numbers : ℕ → ℕ → List ℤ
draw_numbers zero x = []
draw_numbers (suc many) x = draw_whole x ∷ draw_numbers many (after x)

-- a value of the sort: of bytes and lists the first draw gives the length, from 0 to 4
abbrev pub draw_value : Sort → ℕ → Value
draw_value sort.Unit x = value.Unit
draw_value sort.Flag x = value.Flag (draw x % 2 == 1)
draw_value sort.Natural x = value.Natural (draw x)
draw_value sort.Whole x = value.Whole (draw_whole x)
draw_value sort.Octets x = value.Octets (draw_octets (draw x % 5) (after x))
draw_value sort.Numbers x = value.Numbers (draw_numbers (draw x % 5) (after x))

-- the number that is left behind such a value
abbrev pub after_value : Sort → ℕ → ℕ
after_value sort.Unit x = x
after_value sort.Flag x = after x
after_value sort.Natural x = after x
after_value sort.Whole x = after x
after_value sort.Octets x = after_many (draw x % 5) (after x)
after_value sort.Numbers x = after_many (draw x % 5) (after x)

-- the first draw picks an arm
abbrev pub drawn_arm : ℕ → List Arm → Option Arm
drawn_arm x arms = slice_get arms (draw x % length arms)

-- and the next ones make a value of its sort
abbrev pub value_for : Option Arm → ℕ → Value
value_for None x = value.Unit
value_for (Some arm) x = draw_value arm.sort x

-- the number that is left behind a value for that arm
abbrev pub after_arm : Option Arm → ℕ → ℕ
after_arm None x = x
after_arm (Some arm) x = after_value arm.sort x

-- a receive makes no draw
abbrev pub by_draws : Behaviour ℕ
by_draws = record {
  chooses = λ x arms. (draw x % length arms, value_for (drawn_arm x arms) (after x));
  asked = λ x arms. after_arm (drawn_arm x arms) (after x);
  told = λ x arms place value. x;
}
