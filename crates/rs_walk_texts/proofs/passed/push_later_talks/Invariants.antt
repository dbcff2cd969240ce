use Rattle.std.proofs.Common.{◌≡◌, ◌++◌, take}
use Rattle.std.specs.List.{flat_map}
use Rattle.rs_walk_texts.specs.Heads.{behind_comma, placed_talk_text}
use Rattle.rs_walk_texts.proofs.passed.push_later_talks.Given as goal

abbrev pub invariant-loop-number : goal.invariant-loop-number
invariant-loop-number l =
    l.text ≡ l.fn.text ++ flat_map (behind_comma (placed_talk_text l.source.names l.source.protocol.nodes l.source.talks)) (take l.number-index l.numbers)
