use Rattle.std.proofs.Common.{◌≡◌, drop, length}
use Rattle.rs_project.specs.Marks.{flags_without}
use Rattle.rs_project.proofs.spreading.take_back.Given as goal

abbrev pub invariant-loop-number : goal.invariant-loop-number
invariant-loop-number l = record {
  size : length l.flags.items ≡ length l.fn.flags.items;
  rest : flags_without (drop l.number-index l.numbers) l.flags.items ≡ flags_without l.numbers l.fn.flags.items;
}
