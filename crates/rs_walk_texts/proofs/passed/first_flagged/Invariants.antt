use Rattle.std.proofs.Common.{◌≡◌, drop}
use Rattle.rs_walk_texts.specs.Passed.{first_flagged}
use Rattle.rs_walk_texts.proofs.passed.first_flagged.Given as goal

abbrev pub invariant-loop-number : goal.invariant-loop-number
invariant-loop-number l = first_flagged l.nodes l.flags l.label (drop l.number-index l.numbers) ≡ first_flagged l.nodes l.flags l.label l.numbers
