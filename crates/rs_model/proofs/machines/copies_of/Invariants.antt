use Rattle.std.proofs.Common.{◌≡◌, take}
use Rattle.rs_model.proofs.machines.copies_of.Given as goal

abbrev pub invariant-loop-machine : goal.invariant-loop-machine
invariant-loop-machine l = l.copies.items ≡ take l.machine-index l.machines
