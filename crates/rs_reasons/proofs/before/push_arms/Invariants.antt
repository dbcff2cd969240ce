use Rattle.std.proofs.Common.{◌≡◌, ◌++◌, drop}
use Rattle.std.specs.List.{flat_map}
use Rattle.rs_reasons.specs.Before.{arm_lines}
use Rattle.rs_reasons.proofs.before.push_arms.Given as goal

abbrev pub invariant-loop-arm : goal.invariant-loop-arm
invariant-loop-arm l =
    l.text ++ flat_map (arm_lines l.clash l.number l.sender l.receiver) (drop l.arm-index l.arms)
    ≡ l.initial.text ++ flat_map (arm_lines l.clash l.number l.sender l.receiver) l.arms
