use Rattle.std.proofs.Common.{◌<◌, ℕ, get_or}
use Rattle.rs_project.specs.Marks.{StandsFor}
use Rattle.rs_project.proofs.searching.one_end.Given as goal

abbrev pub invariant-loop-start : goal.invariant-loop-start
invariant-loop-start l = (k d : ℕ) → k < l.start-index → StandsFor l.survey.protocol l.survey.role (get_or l.starts k d) l.end
