use Rattle.std.proofs.Common.{◌≡◌, length, take}
use Rattle.rs_model.proofs.machines.same_states.Given as goal

abbrev pub invariant-loop-i : goal.invariant-loop-i
invariant-loop-i l = (length l.ours ≡ length l.theirs) × (take l.i l.ours ≡ take l.i l.theirs)
