use Rattle.std.proofs.Common.{◌≡◌, length, map, take}
use Rattle.rs_model.specs.declared.graph.Arm.{Arm}
use Rattle.rs_improve.proofs.swaps.exchanges.have_same_messages.Given as goal

abbrev pub invariant-loop-i : goal.invariant-loop-i
invariant-loop-i l = (length l.ours ≡ length l.theirs) × (map (λ (a : Arm). a.label) (take l.i l.ours) ≡ map (λ (a : Arm). a.label) (take l.i l.theirs))
    × (map (λ (a : Arm). a.sort) (take l.i l.ours) ≡ map (λ (a : Arm). a.sort) (take l.i l.theirs))
