use Rattle.std.proofs.Common.{◌≡◌, drop}
use Rattle.rs_model.specs.Checks.{states_fault}
use Rattle.rs_model.proofs.machines.Machine.fault.Given as goal

abbrev pub invariant-loop-number : goal.invariant-loop-number
invariant-loop-number l =
    states_fault l.self l.roles (drop l.number l.self.states) l.number ≡ states_fault l.self l.roles l.self.states 0
