use Rattle.std.proofs.Common.{◌≡◌, ℕ, ◌<◌, ◌≤◌, length, Some, slice_get, vec_capacity}
use Rattle.rs_session.specs.Stages.{IsOf, first_stage, sight_of_stage}
use Rattle.rs_session.proofs.Beginning.{AreFirstFrom}
use Rattle.rs_session.specs.declared.stages.Stage.{Stage}
use Rattle.rs_session.proofs.sessions.Session.first_stages.Given as goal

abbrev pub invariant-loop-number : goal.invariant-loop-number
invariant-loop-number l = record {
  count : length l.stages.items ≡ l.number;
  each : (r : ℕ) → r < l.number → (stage : Stage) × (slice_get l.stages.items r ≡ Some stage) × IsOf l.self stage × (sight_of_stage stage ≡ first_stage l.self r);
  room : length l.self.machines ≤ vec_capacity l.stages;
  same : l.pass.table ≡ l.self.table;
  pass : AreFirstFrom l.self.machines l.number l.pass.view;
}
