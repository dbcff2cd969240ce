use Rattle.std.proofs.Common.{◌≡◌, ◌++◌, drop}
use Rattle.std.specs.List.{flat_map}
use Rattle.rs_reasons.specs.Waits.{item_within}
use Rattle.rs_reasons.proofs.waits.push_arms_within.Given as goal

abbrev pub invariant-loop-arm : goal.invariant-loop-arm
invariant-loop-arm l =
    l.text ++ flat_map (item_within l.names l.talks l.round l.number l.sender l.receiver) (drop l.arm-index l.arms)
    ≡ l.initial.text ++ flat_map (item_within l.names l.talks l.round l.number l.sender l.receiver) l.arms
