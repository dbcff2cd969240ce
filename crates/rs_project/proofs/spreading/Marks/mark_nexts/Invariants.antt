use Rattle.std.proofs.Common.{◌≡◌, ◌+◌, ℕ, Bool, List, drop, length}
use Rattle.rs_model.specs.Data.{Protocol_data}
use Rattle.rs_project.specs.Marks.{Walking, count_of_lowered}
use Rattle.rs_project.specs.Numbered.{nexts_of}
use Rattle.rs_project.proofs.spreading.Marks.mark_nexts.Given as goal

abbrev pub invariant-loop-arm : goal.invariant-loop-arm
invariant-loop-arm l = record {
  size : length l.self.flags ≡ length l.fn.self.flags;
  owed : count_of_lowered l.self.flags + length l.self.numbers ≡ count_of_lowered l.fn.self.flags + length l.fn.self.numbers;
  keeps : (protocol : Protocol_data) (through : List Bool) (starts : List ℕ) (done : ℕ) → Walking protocol through starts l.fn.self done (nexts_of l.arms)
      → Walking protocol through starts l.self done (nexts_of (drop l.arm-index l.arms));
}
