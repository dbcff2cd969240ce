-- Steps: how numbers are read, word by word.
use Rattle.std.specs.Prelude.{ℕ, ℤ, List, not, drop, ◌≤◌, length}
use Rattle.std.specs.List.{prefix_len}
use Rattle.std.specs.Str.Parse.{IsNumeral}
use Rattle.rs_demos.specs.Numbers.{is_blank, AreAsked, SpellsNumbers}
use Rattle.rs_model.specs.declared.demos.Demo.{Demo}
use Rattle.rs_demos.specs.declared.faults.DemoFault.{DemoFault}
use Rattle.rs_demos.specs.declared.faults.DemoFault.TheVariants as fault

-- how many blanks stand in front
abbrev pub blanks_before : List ℕ → ℕ
blanks_before bytes = prefix_len is_blank bytes

-- what follows them
abbrev pub behind_blanks : List ℕ → List ℕ
behind_blanks bytes = drop (blanks_before bytes) bytes

-- how many bytes stand before the first blank
abbrev pub word_len : List ℕ → ℕ
word_len bytes = prefix_len (λ (b : ℕ). not (is_blank b)) bytes

-- the bytes can be the digits of a number
abbrev pub AreDigits : List ℕ → Type 0
AreDigits digits = IsNumeral 10 digits × (length digits ≤ 20)

-- what a fault of reading says
abbrev pub SpellsNone : List ℕ → DemoFault → Type 0
SpellsNone bytes fault.BadNumbers = (zs : List ℤ) → SpellsNumbers zs bytes → ⊥
SpellsNone bytes fault.NoMemory = Unit {0}

-- what a fault of reading says, and of asking for numbers
abbrev pub ReadsInVain : Demo → List ℕ → DemoFault → Type 0
ReadsInVain kind bytes fault.BadNumbers = (zs : List ℤ) → AreAsked kind bytes zs → ⊥
ReadsInVain kind bytes fault.NoMemory = Unit {0}
