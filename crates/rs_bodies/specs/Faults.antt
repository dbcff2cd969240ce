-- Public: the first fault of a text, and the names that it leaves.
use Rattle.std.specs.Prelude.{◌≡◌, ℕ, ◌⊎◌, List, [], ◌∷◌, ◌++◌, codes, Bool, true, false, Some}
use Rattle.rs_model.specs.Data.{Names_data}
use Rattle.rs_text.specs.Kept.{Keeps}
use Rattle.rs_text.specs.declared.tokens.FaultKind.{FaultKind}
use Rattle.rs_text.specs.declared.faults.Wanted.{Wanted}
use Rattle.rs_text.specs.declared.faults.TextKind.{TextKind}
use Rattle.rs_text.specs.declared.faults.TextKind.TheVariants as kind
use Rattle.rs_text.specs.Faults.{kind_of}
use Rattle.rs_text.specs.Lexemes.{Lexeme, signs_of}
use Rattle.rs_text.specs.Lexing.{Lexed}
use Rattle.rs_text.specs.Names.{names_with}
use Rattle.rs_text.specs.Signs.{Sign, rec_word, end_word, plain, bang, question, comma, open_brace, broken}
use Rattle.rs_bodies.specs.declared.dialects.Dialect.{Dialect}
use Rattle.rs_bodies.specs.Spells.{Tree, tree_signs}
use Rattle.rs_bodies.specs.Cuts.{Cut, behind_end, behind_name, in_binds, in_acts, behind_brace, PartCut, in_body, IsBehind, part_cut_signs, wanted_of}
use Rattle.rs_bodies.specs.Misplaced.{fault_of}
use Rattle.rs_text.specs.FirstFaults.{IsWhole, FirstFaultBy}
use Rattle.rs_bodies.specs.declared.dialects.Dialect.TheVariants.{Talks, Acts}

-- the tokens begin a part
abbrev pub Begins : Dialect → List Sign → Type 0
Begins d signs = (tree : Tree d) × (rest : List Sign) × (tree_signs d tree ≡ signs ++ rest)

-- the place is within the part, not behind it
abbrev pub IsInPart : (d : Dialect) → PartCut d → Type 0
IsInPart d (in_body x body) = IsBehind d body → ⊥
IsInPart d _ = Unit {0}

-- the place is within the part, or behind a word at its end, which may still be a peer
abbrev pub EndsByName : (d : Dialect) → Cut d → Type 0
EndsByName d (behind_name n) = Unit {0}
EndsByName d (in_binds n b) = EndsByName d b
EndsByName d (in_acts p m l sort b) = EndsByName d b
EndsByName d behind_end = ⊥
EndsByName d (behind_brace p m arms) = ⊥
EndsByName d _ = Unit {0}

-- at that place the part is still read
abbrev pub IsInReach : (d : Dialect) → PartCut d → Type 0
IsInReach d (in_body x body) = EndsByName d body
IsInReach d _ = Unit {0}

-- the tokens before it begin a part that goes on, and with it they begin none
pub record IsUnexpected (d : Dialect) (before : List Sign) (t : Sign) (wanted : Wanted) : Type 0 where
  pub whole : IsWhole t
  pub place : PartCut d
  pub stands : part_cut_signs d place ≡ before
  pub within : IsInPart d place
  pub wants : wanted_of d place ≡ wanted
  pub stops : Begins d (before ++ t ∷ []) → ⊥

-- it breaks a rule of names or limits at its place
pub record IsMisplaced (d : Dialect) (old : Names_data) (before : List Sign) (t next : Sign) (kind : TextKind) : Type 0 where
  pub place : PartCut d
  pub stands : part_cut_signs d place ≡ before
  pub fault : fault_of d old place t next ≡ Some kind

-- it is a faulty token where the part is still read
pub record IsBroken (d : Dialect) (before : List Sign) (t : Sign) (kind : FaultKind) : Type 0 where
  pub broken_is : t ≡ broken kind
  pub place : PartCut d
  pub stands : part_cut_signs d place ≡ before
  pub reached : IsInReach d place

-- the faults of a token, with the names that were there, the tokens before it and the one behind it
abbrev pub FaultAt : (d : Dialect) → (old : Names_data) → (before : List Sign) → (t next : Sign) → TextKind → Type 0
FaultAt d old before t next k = ((w : Wanted) × (k ≡ kind.Expected w) × IsUnexpected d before t w) ⊎ (IsMisplaced d old before t next k ⊎ ((j : FaultKind) × (k ≡ kind_of j) × IsBroken d before t j))

-- the fault at the least offset, and at one token the one with the least number
abbrev pub FirstFault : (d : Dialect) → (old : Names_data) → (bytes : List ℕ) → (at : ℕ) → TextKind → (offset : ℕ) → Type 0
FirstFault d old bytes at kind offset = FirstFaultBy (FaultAt d old) bytes at kind offset

-- behind a mark, a brace that opens and a comma a label stands
abbrev pub opens_arm : Sign → Bool
opens_arm bang = true
opens_arm question = true
opens_arm open_brace = true
opens_arm comma = true
opens_arm _ = false

-- a word, where a label stands
abbrev pub label_there : (here : Bool) → Sign → List (List ℕ)
label_there true rec_word = codes "rec" ∷ []
label_there true end_word = codes "end" ∷ []
label_there true (plain text) = text ∷ []
label_there _ t = []

-- the labels among the tokens of a machine, in order; `here` says whether one may stand first
abbrev pub labels_among : (here : Bool) → List Sign → List (List ℕ)
labels_among here [] = []
labels_among here (t ∷ ts) = label_there here t ++ labels_among (opens_arm t) ts

-- the names with the labels of these tokens
abbrev pub names_behind : Names_data → List Sign → Names_data
names_behind old signs = record { roles = old.roles; labels = names_with old.labels (labels_among false signs) }

-- the first fault leaves the names with the labels of the tokens before it
abbrev pub LeavesNames : (old new : Names_data) → (bytes : List ℕ) → (at : ℕ) → (kind : TextKind) → (offset : ℕ) → Type 0
LeavesNames old new bytes at kind offset = (fault : FirstFault Acts old bytes at kind offset) × (new ≡ names_behind old (signs_of fault.before))

-- the names with the labels of some first tokens of the text
pub record LeavesSome (old new : Names_data) (bytes : List ℕ) (at : ℕ) : Type 0 where
  pub before : List Lexeme
  pub others : List Lexeme
  pub lexed : Lexed bytes at (before ++ others)
  pub names_are : new ≡ names_behind old (signs_of before)

-- what a refusal leaves: of the first fault the labels of the tokens before it; of refused memory those of some first tokens
abbrev pub LeavesLabels : (old new : Names_data) → (bytes : List ℕ) → (at : ℕ) → (kind : TextKind) → (offset : ℕ) → Type 0
LeavesLabels old new bytes at k offset = ((k ≡ kind.NoMemory) × LeavesSome old new bytes at) ⊎ LeavesNames old new bytes at k offset

-- what the refusal of a part leaves: of a machine the names with the labels before it
abbrev pub LeavesBy : Dialect → (old new : Names_data) → (bytes : List ℕ) → (at : ℕ) → (kind : TextKind) → (offset : ℕ) → Type 0
LeavesBy Talks old new bytes at kind offset = Unit {0}
LeavesBy Acts old new bytes at kind offset = LeavesLabels old new bytes at kind offset

-- a machine keeps the names that were there
abbrev pub KeepsBy : Dialect → (old new : Names_data) → Type 0
KeepsBy Talks old new = Unit {0}
KeepsBy Acts old new = Keeps old new
