use Rattle.rs_answers.specs.Derivations.{AreFirstCanonical}
use Rattle.rs_answers.specs.Machines.{machines_of}
use Rattle.rs_answers.proofs.derivations.derivations_of.Given as goal

abbrev pub invariant-loop-place : goal.invariant-loop-place
invariant-loop-place l = AreFirstCanonical l.bound (machines_of l.own l.projections) l.projections l.place l.derivations.items
