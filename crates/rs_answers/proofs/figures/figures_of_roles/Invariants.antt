use Rattle.rs_answers.specs.Figures.{AreFirstFigures}
use Rattle.rs_answers.specs.Machines.{machines_of}
use Rattle.rs_answers.proofs.figures.figures_of_roles.Given as goal

abbrev pub invariant-loop-place : goal.invariant-loop-place
invariant-loop-place l = AreFirstFigures l.bound (machines_of l.own l.projections) l.projections l.place l.all.items
