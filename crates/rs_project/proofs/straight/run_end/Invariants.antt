use Rattle.std.proofs.Common.{◌<◌, length}
use Rattle.rs_project.specs.Marks.{StandsFor}
use Rattle.rs_project.proofs.straight.run_end.Given as goal

abbrev pub invariant-loop : goal.invariant-loop
invariant-loop l = record {
  within : l.node < length l.survey.protocol.nodes;
  stands : StandsFor l.survey.protocol l.survey.role l.start l.node;
}
