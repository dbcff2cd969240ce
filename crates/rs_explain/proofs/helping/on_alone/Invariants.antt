use Rattle.std.proofs.Common.{ℕ}
use Rattle.rs_explain.specs.Helping.{is_on_alone}
use Rattle.rs_explain.specs.OnWay.{AreFlags}
use Rattle.rs_explain.proofs.helping.on_alone.Given as goal

abbrev pub invariant-loop-n : goal.invariant-loop-n
invariant-loop-n l = AreFlags (λ (n : ℕ). is_on_alone l.ours l.theirs l.numbers n) l.n l.flags.items
