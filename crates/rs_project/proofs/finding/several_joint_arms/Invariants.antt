use Rattle.std.proofs.Common.{◌≡◌, map, take}
use Rattle.rs_project.specs.Numbered.{nexts_of}
use Rattle.rs_project.specs.Projection.{choice_of}
use Rattle.rs_project.specs.Working.{Discovers}
use Rattle.rs_project.proofs.finding.several_joint_arms.Given as goal

abbrev pub invariant-loop-choice : goal.invariant-loop-choice
invariant-loop-choice l = record {
  survey : l.search.survey ≡ l.fn.search.survey;
  discovers : Discovers l.fn.search.survey.protocol l.fn.search.survey.role l.fn.search.fronts l.talks (map choice_of (take l.choice-index l.choice-items)) l.search.fronts (nexts_of l.arms);
  same : map choice_of l.arms ≡ map choice_of (take l.choice-index l.choice-items);
}
