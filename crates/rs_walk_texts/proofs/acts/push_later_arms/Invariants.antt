use Rattle.std.proofs.Common.{◌≡◌, ◌++◌, take}
use Rattle.std.specs.List.{flat_map}
use Rattle.rs_walk_texts.specs.Heads.{arm_text, behind_comma}
use Rattle.rs_walk_texts.proofs.acts.push_later_arms.Given as goal

abbrev pub invariant-loop-arm : goal.invariant-loop-arm
invariant-loop-arm l = l.text ≡ l.fn.text ++ flat_map (behind_comma (arm_text l.names)) (take l.arm-index l.arms)
