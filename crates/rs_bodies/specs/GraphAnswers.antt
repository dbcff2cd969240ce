-- Public: the graph that the tokens of a part are read as.
use Rattle.std.specs.Prelude.{◌≡◌, ℕ, List, Result, Ok, Err}
use Rattle.rs_model.specs.Data.{Names_data}
use Rattle.rs_text.specs.declared.faults.TextFault.{TextFault}
use Rattle.rs_text.specs.Lexemes.{Lexeme}
use Rattle.rs_text.specs.Lexing.{Lexed}
use Rattle.rs_text.specs.Readings.{read_all}
use Rattle.rs_bodies.specs.declared.dialects.Dialect.{Dialect}
use Rattle.rs_bodies.specs.Feeding.{PartAnswer, feeding, start_of_part, answer_of_reading}
use Rattle.rs_bodies.specs.GraphKinds.{GraphKind}

-- names, graph and the offset behind them
pub record GraphAnswer (G : Type 0) : Type 0 where
  pub names : Names_data
  pub graph : G
  pub until : ℕ

-- the graph of what was read, or its fault
abbrev pub graph_of_answer : {d : Dialect} {G : Type 0} → GraphKind d G → Result PartAnswer TextFault → Result (GraphAnswer G) TextFault
graph_of_answer kind (Err e) = Err e
graph_of_answer kind (Ok a) = Ok (record { names = a.names; graph = kind.made a.names a.spelling; until = a.until })

-- what the tokens of the bytes from `at` on are read as, with the old names
abbrev pub ReadsGraph : {d : Dialect} {G : Type 0} → GraphKind d G → Names_data → List ℕ → ℕ → Result (GraphAnswer G) TextFault → Type 0
ReadsGraph {d} kind old bytes at answer = (lexemes : List Lexeme) → Lexed bytes at lexemes → graph_of_answer kind (answer_of_reading (read_all (feeding d) (Ok (start_of_part d old)) lexemes)) ≡ answer
