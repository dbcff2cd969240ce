use Rattle.std.proofs.Common.{◌≡◌, ℕ, Bool, List, drop, length}
use Rattle.rs_model.specs.Data.{Protocol_data}
use Rattle.rs_project.specs.Marks.{Walking}
use Rattle.rs_project.proofs.spreading.Marks.mark_starts.Given as goal

abbrev pub invariant-loop-start : goal.invariant-loop-start
invariant-loop-start l = record {
  size : length l.self.flags ≡ length l.fn.self.flags;
  keeps : (protocol : Protocol_data) (through : List Bool) (all : List ℕ) (done : ℕ) → Walking protocol through all l.fn.self done l.starts
      → Walking protocol through all l.self done (drop l.start-index l.starts);
}
