use Rattle.std.proofs.Common.{◌≡◌, drop}
use Rattle.rs_walk_texts.specs.Passed.{first_talk}
use Rattle.rs_walk_texts.proofs.passed.first_talk.Given as goal

abbrev pub invariant-loop-number : goal.invariant-loop-number
invariant-loop-number l = first_talk l.nodes l.label (drop l.number-index l.numbers) ≡ first_talk l.nodes l.label l.numbers
