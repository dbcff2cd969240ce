use Rattle.std.proofs.Common.{◌≡◌, drop}
use Rattle.rs_explain.specs.Growth as spec
use Rattle.rs_explain.proofs.growth.is_repeatable.Given as goal

abbrev pub invariant-loop-step : goal.invariant-loop-step
invariant-loop-step l =
    spec.is_repeatable l.sub l.needed l.acts l.state l.pending (drop l.step-index l.steps) ≡ spec.is_repeatable l.sub l.needed l.acts l.first.state l.first.pending l.steps
