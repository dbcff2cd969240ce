use Rattle.std.proofs.Common.{◌≡◌, drop}
use Rattle.rs_run_pictures.specs.Rounds as spec
use Rattle.rs_run_pictures.proofs.scenes.Scene.rounds_for.Given as goal

abbrev pub invariant-loop-many : goal.invariant-loop-many
invariant-loop-many l = spec.rounds_for l.capacity (drop l.many-index l.counts) l.self ≡ spec.rounds_for l.capacity l.counts l.fn.self
