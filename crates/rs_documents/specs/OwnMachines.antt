-- Public: what the reader of one machine gives and leaves.
use Rattle.std.specs.Prelude.{ℕ, ◌≤◌, List, codes, length}
use Rattle.rs_documents.specs.Parts.{NextTokenIs}
use Rattle.rs_documents.specs.Ready.{IsShort}
use Rattle.rs_documents.specs.Spells.{SpellsOwn}
use Rattle.rs_machines.specs.Faults as of_machines
use Rattle.rs_model.specs.Data.{Machine_data, Names_data}
use Rattle.rs_tables.specs.Faults as of_tables
use Rattle.rs_text.specs.Signs.{plain}
use Rattle.rs_text.specs.declared.faults.TextKind.{TextKind}

-- the bytes spell it, with no more states than there may be, up to an offset within them
pub record IsOwnRead (bytes : List ℕ) (at : ℕ) (old new : Names_data) (machine : Machine_data) (until : ℕ) : Type 0 where
  pub spells : SpellsOwn bytes at old new machine until
  pub bounded : IsShort machine
  pub within : until ≤ length bytes

-- what a refusal leaves in the names: of a table, where the word `table` is next, and otherwise of a body
pub data LeavesOwn (old new : Names_data) (bytes : List ℕ) (at : ℕ) (k : TextKind) (offset : ℕ) : Type 0 where
  TableLeaves : NextTokenIs bytes at (plain (codes "table")) → of_tables.LeavesLabels old new bytes at k offset → LeavesOwn old new bytes at k offset
  BodyLeaves : (NextTokenIs bytes at (plain (codes "table")) → ⊥) → of_machines.LeavesLabels old new bytes at k offset → LeavesOwn old new bytes at k offset
