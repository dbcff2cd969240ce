use Rattle.std.proofs.Common.{◌≡◌, map}
use Rattle.rs_machines.specs.Parts.{state_of_point}
use Rattle.rs_machines.proofs.machines.acts.Given as goal

abbrev pub invariant-loop-point : goal.invariant-loop-point
invariant-loop-point l = l.states.items ≡ map state_of_point l.yielded
