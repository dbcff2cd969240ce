use Rattle.std.proofs.Common.{◌≡◌, Some, map}
use Rattle.rs_answers.proofs.checks.one_for_each_role.Given as goal

abbrev pub invariant-loop-derivation : goal.invariant-loop-derivation
invariant-loop-derivation l = l.own.items ≡ map Some l.yielded
