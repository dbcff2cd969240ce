-- Public: the first fault of a text, and the names that it leaves.
use Rattle.std.specs.Prelude.{◌≡◌, ℕ, ◌⊎◌, List, [], ◌∷◌, ◌++◌, length, Option, Some, None, nat_le, ◌==◌, if◌then◌else◌}
use Rattle.rs_model.specs.Data.{Names_data}
use Rattle.rs_model.specs.declared.limits.TheConstants.{MOST_STATES}
use Rattle.rs_bodies.specs.Faults.{LeavesSome, names_behind}
use Rattle.rs_text.specs.ArmCuts.{at_label}
use Rattle.rs_text.specs.declared.tokens.FaultKind.{FaultKind}
use Rattle.rs_text.specs.declared.faults.Wanted.{Wanted}
use Rattle.rs_text.specs.declared.faults.TextKind.{TextKind}
use Rattle.rs_text.specs.declared.faults.TextKind.TheVariants as kind
use Rattle.rs_text.specs.Faults.{kind_of}
use Rattle.rs_text.specs.FirstFaults.{IsWhole, FirstFaultBy}
use Rattle.rs_text.specs.Lexemes.{signs_of}
use Rattle.rs_text.specs.NameFaults.{fault_of_label, fault_of_role}
use Rattle.rs_text.specs.Names.{names_with}
use Rattle.rs_text.specs.Seen.{plain_text, word_text}
use Rattle.rs_text.specs.Signs.{Sign, broken}
use Rattle.rs_text.specs.TokenTests.{number_value}
use Rattle.rs_tables.specs.Cuts.{RowCut, at_number, behind_number, in_arm, Cut, at_role, in_rows, at_end, cut_signs, wanted_of, IsPlace}
use Rattle.rs_tables.specs.Machines.{labels_of_arms, labels_of_rows}
use Rattle.rs_tables.specs.Spells.{IsFormed}
use Rattle.rs_tables.specs.Trees.{RowTree, TableTree, table_signs}

-- there is room for the row with the right number
abbrev pub fault_of_row : ℕ → Option ℕ → Option TextKind
fault_of_row count None = None
fault_of_row count (Some n) = if n == count then (if nat_le MOST_STATES count then Some kind.TooManyNodes else None) else None

-- the rule of names or limits that a token breaks at its place in a row
abbrev pub fault_in_row : Names_data → List RowTree → RowCut → Sign → Option TextKind
fault_in_row old rows at_number t = fault_of_row (length rows) (number_value t)
fault_in_row old rows behind_number t = fault_of_role old (plain_text t)
fault_in_row old rows (in_arm p m arms at_label) t = fault_of_label (names_with old.labels (labels_of_rows rows ++ labels_of_arms arms)) (word_text t)
fault_in_row old rows _ t = None

-- the same at any place
abbrev pub fault_of : Names_data → Cut → Sign → Option TextKind
fault_of old at_role t = fault_of_role old (plain_text t)
fault_of old (in_rows x rows p) t = fault_in_row old rows p t
fault_of old _ t = None

-- the tokens begin a table
abbrev pub Begins : List Sign → Type 0
Begins signs = (tree : TableTree) × (rest : List Sign) × IsFormed tree × (table_signs tree ≡ signs ++ rest)

-- the place is within the table, not behind it
abbrev pub IsInTable : Cut → Type 0
IsInTable (at_end t) = ⊥
IsInTable _ = Unit {0}

-- the tokens before it stand before a place of the grammar
pub record StandsAt (before : List Sign) (place : Cut) : Type 0 where
  pub right : IsPlace place
  pub within : IsInTable place
  pub signs : cut_signs place ≡ before

-- the tokens before it begin a table that goes on, and with it they begin none
pub record IsUnexpected (before : List Sign) (t : Sign) (wanted : Wanted) : Type 0 where
  pub whole : IsWhole t
  pub place : Cut
  pub stands : StandsAt before place
  pub wants : wanted_of place ≡ wanted
  pub stops : Begins (before ++ t ∷ []) → ⊥

-- it breaks a rule of names or limits at its place
pub record IsMisplaced (old : Names_data) (before : List Sign) (t : Sign) (kind : TextKind) : Type 0 where
  pub place : Cut
  pub stands : StandsAt before place
  pub fault : fault_of old place t ≡ Some kind

-- it is a faulty token where the table is still read
pub record IsBroken (before : List Sign) (t : Sign) (kind : FaultKind) : Type 0 where
  pub broken_is : t ≡ broken kind
  pub place : Cut
  pub stands : StandsAt before place

-- the faults of a token, with the names that were there and the tokens before it. The one behind it doesn't matter
abbrev pub FaultAt : (old : Names_data) → (before : List Sign) → (t next : Sign) → TextKind → Type 0
FaultAt old before t next k = ((w : Wanted) × (k ≡ kind.Expected w) × IsUnexpected before t w) ⊎ (IsMisplaced old before t k ⊎ ((j : FaultKind) × (k ≡ kind_of j) × IsBroken before t j))

-- the fault at the least offset, and at one token the one with the least number
abbrev pub FirstFault : (old : Names_data) → (bytes : List ℕ) → (at : ℕ) → TextKind → (offset : ℕ) → Type 0
FirstFault old bytes at kind offset = FirstFaultBy (FaultAt old) bytes at kind offset

-- the first fault leaves the names with the labels of the tokens before it
abbrev pub LeavesNames : (old new : Names_data) → (bytes : List ℕ) → (at : ℕ) → (kind : TextKind) → (offset : ℕ) → Type 0
LeavesNames old new bytes at kind offset = (fault : FirstFault old bytes at kind offset) × (new ≡ names_behind old (signs_of fault.before))

-- what a refusal leaves: of the first fault the labels of the tokens before it; of refused memory those of some first tokens
abbrev pub LeavesLabels : (old new : Names_data) → (bytes : List ℕ) → (at : ℕ) → (kind : TextKind) → (offset : ℕ) → Type 0
LeavesLabels old new bytes at k offset = ((k ≡ kind.NoMemory) × LeavesSome old new bytes at) ⊎ LeavesNames old new bytes at k offset
