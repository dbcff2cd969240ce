use Rattle.std.proofs.Common.{◌≡◌, length}
use Rattle.rs_core.specs.Runs.{IsGiven}
use Rattle.rs_runs.specs.Runs.{actor_of}
use Rattle.rs_run_pictures.proofs.drawing.actors_of.Given as goal

abbrev pub invariant-loop-role : goal.invariant-loop-role
invariant-loop-role l = (length l.actors.items ≡ l.role) × IsGiven (actor_of l.seed) l.actors.items
