-- Public: places in a grammar. A place is the list of the symbols that are still to be read: the parser's stack.
use Rattle.std.specs.Prelude.{◌≡◌, ◌⊎◌, ◌++◌, List, [], ◌∷◌, Bool, true, false, ◌&&◌, Option, Some, None}
use Rattle.rs_grammar.specs.declared.symbols.Symbol.{Symbol}
use Rattle.rs_grammar.specs.declared.symbols.Symbol.TheVariants.{Terminal, Part}
use Rattle.rs_grammar.specs.Classes.{accepts}
use Rattle.rs_grammar.specs.Grammar.{Grammar, Way, part_at, IsOneOf}
use Rattle.rs_grammar.specs.Trees.{Event}
use Rattle.rs_text.specs.declared.faults.Wanted.{Wanted}
use Rattle.rs_text.specs.declared.faults.Wanted.TheVariants as wanted

-- the token begins one of these ways, which leads to the place d; xs are the symbols after the part
abbrev pub GoesOn : List Way → Event → List Symbol → List Symbol → Type 0
GoesOn ways e xs d = (way : Way) × IsOneOf way ways × (accepts way.first e.sign ≡ true) × (e.action ≡ way.action) × (d ≡ way.rest ++ xs)

-- the token leads from one place to the other: it is the token wanted there, it begins a way of the part there, or the part there
-- is optional and missing, and the token is taken after it
abbrev pub Takes : Grammar → Event → List Symbol → List Symbol → Type 0
Takes g e [] d = ⊥
Takes g e (Terminal c w a ∷ xs) d = (accepts c e.sign ≡ true) × (e.action ≡ a) × (d ≡ xs)
Takes g e (Part n ∷ xs) d = GoesOn (part_at g n).ways e xs d ⊎ (((part_at g n).optional ≡ true) × Takes g e xs d)

-- the tokens lead from one place to the other
abbrev pub Leads : Grammar → List Symbol → List Event → List Symbol → Type 0
Leads g xs [] d = xs ≡ d
Leads g xs (e ∷ es) d = (m : List Symbol) × Takes g e xs m × Leads g m es d

-- all that is still to be read is optional
abbrev pub can_end : Grammar → List Symbol → Bool
can_end g [] = true
can_end g (Terminal c w a ∷ xs) = false
can_end g (Part n ∷ xs) = (part_at g n).optional && can_end g xs

-- the first one, or else the other
abbrev pub wanted_or : Option Wanted → Wanted → Wanted
wanted_or None later = later
wanted_or (Some w) later = w

-- what a fault says was wanted at a place
abbrev pub wanted_at : Grammar → List Symbol → Wanted
wanted_at g [] = wanted.PartOrEnd
wanted_at g (Terminal c w a ∷ xs) = w
wanted_at g (Part n ∷ xs) = wanted_or (part_at g n).wanted (wanted_at g xs)
