use Rattle.std.proofs.Common.{◌≡◌, ◌+◌, ◌-◌, [], length}
use Rattle.rs_project.specs.Marks.{Walking, count_of_lowered}
use Rattle.rs_project.proofs.spreading.Marks.spread.Given as goal

abbrev pub invariant-loop-done : goal.invariant-loop-done
invariant-loop-done l = record {
  size : length l.self.flags ≡ length l.protocol.nodes;
  going : Walking l.protocol l.through l.starts l.self l.done [];
}

abbrev pub decreases-loop-done : goal.decreases-loop-done
decreases-loop-done l = count_of_lowered l.self.flags + length l.self.numbers - l.done
