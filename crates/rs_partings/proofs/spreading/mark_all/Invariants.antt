use Rattle.std.proofs.Common.{◌≡◌, ◌+◌, ℕ, Bool, List, drop, length}
use Rattle.rs_project.specs.Marks.{count_of_lowered}
use Rattle.rs_partings.specs.Rows.{GrownSoFar}
use Rattle.rs_partings.proofs.spreading.mark_all.Given as goal

abbrev pub invariant-loop-next : goal.invariant-loop-next
invariant-loop-next l = record {
  size : length l.marks.items ≡ length l.fn.marks.items;
  owed : count_of_lowered l.marks.items + length l.numbers.items ≡ count_of_lowered l.fn.marks.items + length l.fn.numbers.items;
  keeps : (rows : List (List ℕ)) (starts : List Bool) (done : ℕ) → GrownSoFar rows starts l.fn.marks.items l.fn.numbers.items done l.nexts
      → GrownSoFar rows starts l.marks.items l.numbers.items done (drop l.next-index l.nexts);
}
