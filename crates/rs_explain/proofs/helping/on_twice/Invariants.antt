use Rattle.std.proofs.Common.{ℕ}
use Rattle.rs_explain.specs.Helping.{is_on_twice}
use Rattle.rs_explain.specs.OnWay.{AreFlags}
use Rattle.rs_explain.proofs.helping.on_twice.Given as goal

abbrev pub invariant-loop-n : goal.invariant-loop-n
invariant-loop-n l = AreFlags (λ (n : ℕ). is_on_twice l.one l.other n) l.n l.flags.items
