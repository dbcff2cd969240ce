-- Public: what a grammar is. A part of it has ways, each of which begins with a token; a part may be optional.
use Rattle.std.specs.Prelude.{ℕ, zero, suc, ◌≡◌, ◌⊎◌, List, [], ◌∷◌, Bool, false, Option, None}
use Rattle.rs_grammar.specs.declared.classes.Class.{Class}
use Rattle.rs_grammar.specs.declared.symbols.Symbol.{Symbol}
use Rattle.rs_grammar.specs.declared.symbols.Symbol.TheVariants as symbol
use Rattle.rs_text.specs.declared.faults.Wanted.{Wanted}

-- a way: the class of its first token, the number of this token's action, and the symbols after the token
pub record Way : Type 0 where
  pub first : Class
  pub action : ℕ
  pub rest : List Symbol

-- a part: what a fault says was wanted if none of its ways begins (if nothing, then what is wanted after the part), whether it is
-- optional, the classes of the tokens that may follow it (only an optional part needs them), and its ways
pub record Part : Type 0 where
  pub wanted : Option Wanted
  pub optional : Bool
  pub follow : List Class
  pub ways : List Way

-- a part is named by its place in the list. The first part is the whole
abbrev pub Grammar : Type 0
Grammar = List Part

-- no part
abbrev pub no_part : Part
no_part = record { wanted = None; optional = false; follow = []; ways = [] }

-- the part with this number
abbrev pub part_at : Grammar → ℕ → Part
part_at [] n = no_part
part_at (p ∷ ps) zero = p
part_at (p ∷ ps) (suc n) = part_at ps n

-- what is to be read before the first token: the first part
abbrev pub whole : List Symbol
whole = symbol.Part 0 ∷ []

-- the way is one of these
abbrev pub IsOneOf : Way → List Way → Type 0
IsOneOf w [] = ⊥
IsOneOf w (x ∷ xs) = (w ≡ x) ⊎ IsOneOf w xs
