-- Public: the numbers that bytes spell, and how many of them a demo asks for.
use Rattle.std.specs.Prelude.{◌≡◌, ℕ, ◌≤◌, ℤ, pos, neg_ℤ, FitsSigned, List, [], ◌∷◌, ◌++◌, length, codes, Bool, true, false, ◌&&◌, ◌||◌, ◌==◌, nat_le, if◌then◌else◌}
use Rattle.std.specs.List.{list_all}
use Rattle.std.specs.Str.Parse.{IsNumeral, digits_value}
use Rattle.std.specs.Int.{w64}
use Rattle.rs_model.specs.declared.limits.TheConstants.{MOST_ROLES}
use Rattle.rs_model.specs.declared.demos.Demo.{Demo}
use Rattle.rs_model.specs.declared.demos.Demo.TheVariants as demo

-- a blank: space, tab, CR or LF
abbrev pub is_blank : ℕ → Bool
is_blank b = ((b == 32) || (b == 9)) || ((b == 13) || (b == 10))

-- the bytes are blanks
abbrev pub AreBlanks : List ℕ → Type 0
AreBlanks bytes = list_all is_blank bytes ≡ true

-- `-`, where there is a minus
abbrev pub minus_text : Bool → List ℕ
minus_text true = codes "-"
minus_text false = []

-- the number with its sign
abbrev pub with_sign : Bool → ℕ → ℤ
with_sign minus n = if minus then neg_ℤ (pos n) else pos n

-- the bytes write the number: an optional `-`, then 1 to 20 decimal digits, and a value within 64 bits
pub record IsNumber (bytes : List ℕ) (z : ℤ) : Type 0 where
  pub minus : Bool
  pub digits : List ℕ
  pub spelt : bytes ≡ minus_text minus ++ digits
  pub numeral : IsNumeral 10 digits
  pub bounded : length digits ≤ 20
  pub value : z ≡ with_sign minus (digits_value 10 digits)
  pub fits : FitsSigned w64 z

-- a number is followed by a blank or by nothing
abbrev pub EndsNumber : List ℕ → Type 0
EndsNumber [] = Unit {0}
EndsNumber (b ∷ bs) = is_blank b ≡ true

-- the bytes are blanks, the number, and what follows it
pub record BeginsWith (z : ℤ) (Behind : List ℕ → Type 0) (bytes : List ℕ) : Type 0 where
  pub blanks : List ℕ
  pub word : List ℕ
  pub behind : List ℕ
  pub split : bytes ≡ blanks ++ (word ++ behind)
  pub are_blanks : AreBlanks blanks
  pub number : IsNumber word z
  pub ends : EndsNumber behind
  pub later : Behind behind

-- the bytes spell the numbers, in order: with one or more blanks between each two, and blanks before and after them allowed
abbrev pub SpellsNumbers : List ℤ → List ℕ → Type 0
SpellsNumbers [] bytes = AreBlanks bytes
SpellsNumbers (z ∷ zs) bytes = BeginsWith z (SpellsNumbers zs) bytes

-- whether a demo takes this number of numbers
abbrev pub takes_numbers : Demo → ℕ → Bool
takes_numbers demo.Ring n = nat_le 2 n && nat_le n MOST_ROLES
takes_numbers demo.Butterfly n = ((n == 2) || (n == 4)) || ((n == 8) || (n == 16))
takes_numbers demo.Double n = false
takes_numbers demo.Stream n = false

-- the bytes are the numbers that the demo asks for
abbrev pub AreAsked : Demo → List ℕ → List ℤ → Type 0
AreAsked kind bytes zs = (takes_numbers kind (length zs) ≡ true) × SpellsNumbers zs bytes
