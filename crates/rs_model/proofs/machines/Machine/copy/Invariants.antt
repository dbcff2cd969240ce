use Rattle.std.proofs.Common.{◌≡◌, take}
use Rattle.rs_model.proofs.machines.Machine.copy.Given as goal

abbrev pub invariant-loop-state : goal.invariant-loop-state
invariant-loop-state l = l.states.items ≡ take l.state-index l.state-items
