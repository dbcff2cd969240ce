use Rattle.rs_project.specs.Clashes.{AgreeBefore}
use Rattle.rs_project.proofs.clashes.clash_before.Given as goal

abbrev pub invariant-loop-earlier : goal.invariant-loop-earlier
invariant-loop-earlier l = AgreeBefore l.protocol l.role l.talks l.earlier l.later
