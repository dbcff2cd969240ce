-- Public: what the reader of bodies makes of a protocol's text.
use Rattle.std.specs.Prelude.{ℕ, List, Result}
use Rattle.rs_model.specs.Data.{Protocol_data}
use Rattle.rs_text.specs.declared.faults.TextFault.{TextFault}
use Rattle.rs_bodies.specs.GraphAnswers.{GraphAnswer, ReadsGraph}
use Rattle.rs_global.specs.Graph.{no_names}
use Rattle.rs_global.specs.Kinds.{protocols}

-- names, protocol and the offset behind them
abbrev pub ProtocolAnswer : Type 0
ProtocolAnswer = GraphAnswer Protocol_data

-- what the tokens of the bytes from `at` on are read as
abbrev pub ReadsAs : List ℕ → ℕ → Result ProtocolAnswer TextFault → Type 0
ReadsAs bytes at answer = ReadsGraph protocols no_names bytes at answer
