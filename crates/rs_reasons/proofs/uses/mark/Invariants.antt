use Rattle.std.proofs.Common.{◌≡◌, take}
use Rattle.rs_reasons.specs.Marks.{marked}
use Rattle.rs_reasons.proofs.uses.mark.Given as goal

abbrev pub invariant-loop-place : goal.invariant-loop-place
invariant-loop-place l = l.taken.items ≡ marked l.label (take l.place l.arms) l.fn.taken.items
