use Rattle.std.proofs.Common.{◌≡◌, ◌+◌, ◌-◌, [], length}
use Rattle.rs_project.specs.Marks.{count_of_lowered}
use Rattle.rs_partings.specs.Rows.{GrownSoFar}
use Rattle.rs_partings.proofs.spreading.spread_along.Given as goal

abbrev pub invariant-loop-done : goal.invariant-loop-done
invariant-loop-done l = record {
  size : length l.marks.items ≡ length l.rows;
  growing : GrownSoFar l.rows l.starts l.marks.items l.numbers.items l.done [];
}

abbrev pub decreases-loop-done : goal.decreases-loop-done
decreases-loop-done l = count_of_lowered l.marks.items + length l.numbers.items - l.done
