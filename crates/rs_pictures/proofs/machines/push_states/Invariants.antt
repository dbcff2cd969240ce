use Rattle.std.proofs.Common.{◌≡◌, ◌++◌, drop}
use Rattle.rs_pictures.specs.Machines.{arrows_from}
use Rattle.rs_pictures.proofs.machines.push_states.Given as goal

abbrev pub invariant-loop-number : goal.invariant-loop-number
invariant-loop-number l = l.text ++ arrows_from l.names l.number (drop l.number l.states) ≡ l.initial.text ++ arrows_from l.names 0 l.states
