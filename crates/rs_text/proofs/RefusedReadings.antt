-- The reader that refused.
use Rattle.std.specs.Prelude.{◌≡◌, ℕ, List, Ok}
use Rattle.rs_text.specs.declared.reading.Stop.{Stop}
use Rattle.rs_text.specs.declared.reading.Stop.TheVariants as stops
use Rattle.rs_text.specs.Lexemes.{Lexeme}
use Rattle.rs_text.specs.Lexing.{Lexed}
use Rattle.rs_text.specs.Readings.{Automaton, last_of}

-- d is the reader that refused
abbrev pub RefusedBy : {R : Type 0} → Automaton R → Stop → R → List ℕ → ℕ → R → Type 0
RefusedBy a stops.Memory r bytes at d = Unit {0}
RefusedBy a (stops.Fault f) r bytes at d = (lexemes : List Lexeme) → Lexed bytes at lexemes → last_of a r (Ok r) lexemes ≡ d
