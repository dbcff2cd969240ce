use Rattle.std.proofs.Common.{◌≡◌, ◌≢◌, ℕ, ◌<◌, map, Some, slice_get}
use Rattle.rs_session.specs.Data.{Stage_data}
use Rattle.rs_session.proofs.gathering.is_there.Given as goal

abbrev pub invariant-loop-stage : goal.invariant-loop-stage
invariant-loop-stage g l = (place : ℕ) (stage : Stage_data) → place < l.stage-index → slice_get (map g.S.Stands.stage l.stages) place ≡ Some stage → stage.role.0 ≢ l.fn.role.0
