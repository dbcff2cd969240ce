use Rattle.std.proofs.Common.{◌≤◌, length}
use Rattle.rs_documents.specs.Parts.{machine_parts}
use Rattle.rs_documents.specs.Reading.{AreGood, LeadsBack, MachinesAreHeld, free_in}
use Rattle.rs_documents.proofs.Parts.{row_of}
use Rattle.rs_documents.proofs.documents.read_machines.Given as goal

abbrev pub invariant-loop-alloc : goal.invariant-loop-alloc
invariant-loop-alloc l =
    (l.until ≤ length l.bytes) × AreGood l.names × MachinesAreHeld l.names.roles l.machines.items
    × LeadsBack machine_parts l.bytes (row_of l.initial.names l.initial.machines.items l.at) (row_of l.names l.machines.items l.until)

abbrev pub decreases-loop-alloc : goal.decreases-loop-alloc
decreases-loop-alloc l = free_in l.machines.items
