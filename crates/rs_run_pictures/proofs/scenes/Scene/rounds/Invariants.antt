use Rattle.std.proofs.Common.{◌≡◌}
use Rattle.rs_run_pictures.specs.Rounds.{rounds}
use Rattle.rs_run_pictures.proofs.scenes.Scene.rounds.Given as goal

abbrev pub invariant-loop : goal.invariant-loop
invariant-loop l = l.self ≡ rounds l.capacity l.counter l.fn.self
