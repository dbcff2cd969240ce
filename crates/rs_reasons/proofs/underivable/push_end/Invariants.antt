use Rattle.std.proofs.Common.{◌≡◌, drop}
use Rattle.rs_derive.specs.Moves.{spot}
use Rattle.rs_explain.specs.Walks.{end_of}
use Rattle.rs_reasons.proofs.underivable.push_end.Given as goal

abbrev pub invariant-loop-step : goal.invariant-loop-step
invariant-loop-step l = record {
  same : l.text ≡ l.initial.text;
  end : end_of (spot l.state l.pending l.above) (drop l.step-index l.steps) ≡ end_of l.first l.steps;
}
