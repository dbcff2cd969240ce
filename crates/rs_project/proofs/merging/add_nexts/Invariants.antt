use Rattle.std.proofs.Common.{◌≡◌, ◌++◌, drop}
use Rattle.rs_project.specs.Marks.{labelled_nexts}
use Rattle.rs_project.proofs.merging.add_nexts.Given as goal

abbrev pub invariant-loop-arm : goal.invariant-loop-arm
invariant-loop-arm l = l.starts.items ++ labelled_nexts l.label (drop l.arm-index l.arms) ≡ l.fn.starts.items ++ labelled_nexts l.label l.arms
