use Rattle.std.proofs.Common.{◌≡◌, ◌<◌, ℕ, Some, slice_get}
use Rattle.rs_model.specs.declared.graph.Arm.{Arm}
use Rattle.rs_project.specs.Noted.{IsNotedWith, KeepsNotes}
use Rattle.rs_project.proofs.noting.note_all.Given as goal

abbrev pub invariant-loop-arm : goal.invariant-loop-arm
invariant-loop-arm l = record {
  noted : (place : ℕ) (a : Arm) → place < l.arm-index → slice_get l.arms place ≡ Some a → IsNotedWith l.sorts.items a;
  keeps : KeepsNotes l.fn.sorts.items l.sorts.items;
}
