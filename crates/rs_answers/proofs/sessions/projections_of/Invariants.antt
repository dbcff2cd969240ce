use Rattle.rs_project.specs.Numbered.{AreFirstProjections}
use Rattle.rs_answers.proofs.sessions.projections_of.Given as goal

abbrev pub invariant-loop-role : goal.invariant-loop-role
invariant-loop-role l = AreFirstProjections l.protocol l.role l.projections.items
