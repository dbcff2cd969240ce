use Rattle.std.proofs.Common.{◌≡◌}
use Rattle.rs_answers.specs.Verifying.{those_there}
use Rattle.rs_answers.proofs.verifying.those_there.Given as goal

abbrev pub invariant-loop-held : goal.invariant-loop-held
invariant-loop-held l = l.derivations.items ≡ those_there l.yielded
