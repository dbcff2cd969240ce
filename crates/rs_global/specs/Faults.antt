-- Public: the first fault of a text.
use Rattle.std.specs.Prelude.{ℕ, List}
use Rattle.rs_text.specs.declared.faults.TextKind.{TextKind}
use Rattle.rs_text.specs.FirstFaults.{FirstFaultBy}
use Rattle.rs_bodies.specs.declared.dialects.Dialect.TheVariants.{Talks}
use Rattle.rs_bodies.specs.Faults.{FaultAt}
use Rattle.rs_global.specs.Graph.{no_names}

-- the fault at the least offset, and at one token the one with the least number
abbrev pub FirstFault : (bytes : List ℕ) → (at : ℕ) → TextKind → (offset : ℕ) → Type 0
FirstFault bytes at kind offset = FirstFaultBy (FaultAt Talks no_names) bytes at kind offset
