use Rattle.std.proofs.Common.{◌≡◌, ◌-◌, length}
use Rattle.rs_model.specs.declared.limits.TheConstants.{MOST_STATES}
use Rattle.rs_project.specs.Working.{Working}
use Rattle.rs_project.proofs.projecting.work.Given as goal

abbrev pub invariant-loop-search : goal.invariant-loop-search
invariant-loop-search l = record {
  survey : l.search.survey ≡ l.fn.survey;
  working : Working l.fn.survey.protocol l.fn.survey.role l.search.fronts l.states.items;
}

abbrev pub decreases-loop-search : goal.decreases-loop-search
decreases-loop-search l = MOST_STATES - length l.states.items
