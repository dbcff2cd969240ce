use Rattle.std.proofs.Common.{◌≡◌, drop}
use Rattle.rs_partings.specs.Searching.{parting_of_arms}
use Rattle.rs_partings.proofs.searching.arms_parting.Given as goal

abbrev pub invariant-loop-place : goal.invariant-loop-place
invariant-loop-place l = parting_of_arms l.ones l.others l.talk l.arms l.place (drop l.place l.arms) ≡ parting_of_arms l.ones l.others l.talk l.arms 0 l.arms
