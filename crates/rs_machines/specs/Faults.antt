-- Public: the first fault of a text, and the names that it leaves.
pub use Rattle.rs_bodies.specs.Faults.{LeavesLabels, LeavesNames, LeavesSome, labels_among}
pub use Rattle.rs_text.specs.Kept.{Keeps}
use Rattle.std.specs.Prelude.{ℕ, List}
use Rattle.rs_model.specs.Data.{Names_data}
use Rattle.rs_text.specs.declared.faults.TextKind.{TextKind}
use Rattle.rs_text.specs.FirstFaults.{FirstFaultBy}
use Rattle.rs_bodies.specs.declared.dialects.Dialect.TheVariants.{Acts}
use Rattle.rs_bodies.specs.Faults.{FaultAt}

-- the fault at the least offset, and at one token the one with the least number
abbrev pub FirstFault : (old : Names_data) → (bytes : List ℕ) → (at : ℕ) → TextKind → (offset : ℕ) → Type 0
FirstFault old bytes at kind offset = FirstFaultBy (FaultAt Acts old) bytes at kind offset
