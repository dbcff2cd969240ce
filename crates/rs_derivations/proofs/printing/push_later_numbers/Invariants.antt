use Rattle.std.proofs.Common.{◌≡◌, ◌++◌, codes, drop}
use Rattle.std.specs.Fmt.{decimal}
use Rattle.rs_derivations.specs.Lists.{with_separators}
use Rattle.rs_derivations.proofs.printing.push_later_numbers.Given as goal

abbrev pub invariant-loop-number : goal.invariant-loop-number
invariant-loop-number l = l.text ++ with_separators (codes ", ") decimal (drop l.number-index l.numbers) ≡ l.initial.text ++ with_separators (codes ", ") decimal l.numbers
