use Rattle.std.proofs.Common.{◌≡◌, drop}
use Rattle.rs_derive.specs.Rules.{all_serve}
use Rattle.rs_derive.proofs.rules.all_serve.Given as goal

abbrev pub invariant-loop-arm : goal.invariant-loop-arm
invariant-loop-arm l = all_serve l.theirs (drop l.arm-index l.arms) ≡ all_serve l.theirs l.arms
