use Rattle.std.proofs.Common.{◌≡◌, length, take}
use Rattle.rs_project.proofs.Routes.{AreMet}
use Rattle.rs_project.proofs.straight.straight_front.Given as goal

abbrev pub invariant-loop-start : goal.invariant-loop-start
invariant-loop-start l = record {
  met : AreMet l.survey.protocol l.survey.role (take l.start-index l.starts) l.talks.items;
  many : length l.talks.items ≡ l.start-index;
  room : l.talks.capacity ≡ 4;
}
