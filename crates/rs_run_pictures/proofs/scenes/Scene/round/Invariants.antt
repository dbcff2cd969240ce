use Rattle.std.proofs.Common.{◌≡◌}
use Rattle.rs_run_pictures.specs.Rounds.{turns}
use Rattle.rs_run_pictures.proofs.scenes.Scene.round.Given as goal

abbrev pub invariant-loop-role : goal.invariant-loop-role
invariant-loop-role l = l.self ≡ turns l.capacity l.role l.fn.self
