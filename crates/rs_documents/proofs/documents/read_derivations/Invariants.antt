use Rattle.std.proofs.Common.{◌≤◌, length}
use Rattle.rs_documents.specs.Parts.{derivation_parts}
use Rattle.rs_documents.specs.Reading.{AreGood, LeadsBack, free_in}
use Rattle.rs_documents.specs.Ready.{DerivationsAreHeld}
use Rattle.rs_documents.proofs.Parts.{row_of}
use Rattle.rs_documents.proofs.documents.read_derivations.Given as goal

abbrev pub invariant-loop-alloc : goal.invariant-loop-alloc
invariant-loop-alloc l =
    (l.until ≤ length l.bytes) × AreGood l.names × DerivationsAreHeld l.names.roles l.derivations.items
    × LeadsBack derivation_parts l.bytes (row_of l.initial.names l.initial.derivations.items l.at) (row_of l.names l.derivations.items l.until)

abbrev pub decreases-loop-alloc : goal.decreases-loop-alloc
decreases-loop-alloc l = free_in l.derivations.items
