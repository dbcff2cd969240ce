-- Public: what the code says of its steps.
use Rattle.std.specs.Prelude.{ℕ, ◌≡◌, List, reverse, Option, Some, None}
use Rattle.rs_grammar.specs.declared.builders.Chosen.{Chosen}
use Rattle.rs_grammar.specs.declared.symbols.Symbol.{Symbol}
use Rattle.rs_grammar.specs.Grammar.{Grammar, Way}
use Rattle.rs_grammar.specs.Steps.{Step, step}
use Rattle.rs_text.specs.Signs.{Sign}

-- a way without its class: in the grammar, and in the code
abbrev pub chosen_way : Way → Step
chosen_way w = record { action = w.action; place = w.rest }

-- the same, as the code has it
abbrev pub shown_way : Chosen → Step
shown_way c = record { action = c.action; place = c.rest.now }

-- the place that a stack stands for: its top comes first
abbrev pub place_of : List Symbol → List Symbol
place_of stack = reverse stack

-- a step from one place to another; without one the place stays
abbrev pub Steps : Grammar → Sign → (old new : List Symbol) → Option ℕ → Type 0
Steps g t old new None = (step g old t ≡ None) × (new ≡ old)
Steps g t old new (Some action) = step g old t ≡ Some (record { action = action; place = new })
