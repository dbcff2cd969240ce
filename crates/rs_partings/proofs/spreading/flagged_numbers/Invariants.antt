use Rattle.std.proofs.Common.{◌≡◌, ◌++◌, drop}
use Rattle.rs_partings.specs.Flags.{flagged}
use Rattle.rs_partings.proofs.spreading.flagged_numbers.Given as goal

abbrev pub invariant-loop-number : goal.invariant-loop-number
invariant-loop-number l = l.numbers.items ++ flagged l.number (drop l.number l.flags) ≡ flagged 0 l.flags
