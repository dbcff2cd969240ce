use Rattle.std.proofs.Common.{◌≡◌, drop, not}
use Rattle.std.specs.List.{list_all}
use Rattle.rs_explain.specs.Forcing.{is_guess}
use Rattle.rs_explain.specs.Walks.{WalkStep_data}
use Rattle.rs_explain.proofs.forcing.none_is_a_guess.Given as goal

abbrev pub invariant-loop-step : goal.invariant-loop-step
invariant-loop-step l = list_all (λ (s : WalkStep_data). not (is_guess l.sub l.above s.spot)) (drop l.step-index l.steps) ≡ list_all (λ (s : WalkStep_data). not (is_guess l.sub l.above s.spot)) l.steps
