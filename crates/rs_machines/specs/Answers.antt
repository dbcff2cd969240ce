-- Public: what the reader of bodies makes of a machine's text.
use Rattle.std.specs.Prelude.{ℕ, List, Result}
use Rattle.rs_model.specs.Data.{Machine_data, Names_data}
use Rattle.rs_text.specs.declared.faults.TextFault.{TextFault}
use Rattle.rs_bodies.specs.GraphAnswers.{GraphAnswer, ReadsGraph}
use Rattle.rs_machines.specs.Kinds.{machines}

-- names, machine and the offset behind them
abbrev pub MachineAnswer : Type 0
MachineAnswer = GraphAnswer Machine_data

-- what the tokens of the bytes from `at` on are read as, with the old names
abbrev pub ReadsAs : Names_data → List ℕ → ℕ → Result MachineAnswer TextFault → Type 0
ReadsAs old bytes at answer = ReadsGraph machines old bytes at answer
