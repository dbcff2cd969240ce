use Rattle.std.proofs.Common.{◌≡◌, ◌++◌, drop}
use Rattle.rs_reasons.specs.Flagged.{flagged_arms}
use Rattle.rs_reasons.proofs.accepted.push_unused_arms.Given as goal

abbrev pub invariant-loop-place : goal.invariant-loop-place
invariant-loop-place l =
    l.text ++ flagged_arms l.names l.role l.at l.peer (drop l.place l.arms) (drop l.place l.taken) ≡ l.initial.text ++ flagged_arms l.names l.role l.at l.peer l.arms l.taken
