use Rattle.std.proofs.Common.{◌≡◌, map}
use Rattle.rs_project.proofs.projecting.sets_of.Given as goal

abbrev pub invariant-loop-front : goal.invariant-loop-front
invariant-loop-front l = map (λ s. s.items) l.sets.items ≡ map (λ f. f.talks) l.yielded
