use Rattle.std.proofs.Common.{◌≡◌, ◌++◌, drop}
use Rattle.std.specs.List.{flat_map}
use Rattle.rs_reasons.specs.Waits.{talk_items}
use Rattle.rs_reasons.proofs.waits.push_items.Given as goal

abbrev pub invariant-loop-number : goal.invariant-loop-number
invariant-loop-number l =
    l.text ++ flat_map (talk_items l.names l.protocol l.talks l.round) (drop l.number-index l.numbers)
    ≡ l.initial.text ++ flat_map (talk_items l.names l.protocol l.talks l.round) l.numbers
