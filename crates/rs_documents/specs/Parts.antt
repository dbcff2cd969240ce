-- Public: parts of one kind, one behind the other, as many as stand there.
use Rattle.std.specs.Prelude.{◌≡◌, ◌⊎◌, ℕ, List, codes, map, Option, Some, None, Result, Ok, Err, slice_get, slice_set}
use Rattle.rs_derivations.specs.Faults as of_derivations
use Rattle.rs_derivations.specs.Spells.{SpellsDerivation}
use Rattle.rs_derive.specs.Data.{Derivation_data}
use Rattle.rs_machines.specs.Faults as of_machines
use Rattle.rs_tables.specs.Faults as of_tables
use Rattle.rs_documents.specs.Spells.{SpellsOwn}
use Rattle.rs_model.specs.Data.{Names_data, Machine_data}
use Rattle.rs_model.specs.declared.graph.Role.{Role}
use Rattle.rs_text.specs.Lexing.{next_lexeme}
use Rattle.rs_text.specs.Names.{place_of}
use Rattle.rs_text.specs.Signs.{Sign, plain}
use Rattle.rs_text.specs.declared.faults.TextFault.{TextFault}
use Rattle.rs_text.specs.declared.faults.TextKind.{TextKind}
use Rattle.rs_text.specs.declared.faults.TextKind.TheVariants as fault

-- a kind of part: the words with which it begins, the role that a part belongs to, what a text spells with older names
-- and newer ones, and its first fault
pub record PartKind (A : Type 0) : Type 1 where
  pub Begins : Sign → Type 0
  pub role_of : A → Role
  pub Spells : (bytes : List ℕ) → (at : ℕ) → (old new : Names_data) → A → (until : ℕ) → Type 0
  pub Fails : (old : Names_data) → (bytes : List ℕ) → (at : ℕ) → TextKind → (offset : ℕ) → Type 0

-- the next token at the offset
abbrev pub NextTokenIs : List ℕ → ℕ → Sign → Type 0
NextTokenIs bytes at sign = (next_lexeme bytes at).sign ≡ sign

-- the first fault of a machine: of its table, where the word `table` stands there, else of its body
pub data FailsOwn (old : Names_data) (bytes : List ℕ) (at : ℕ) (k : TextKind) (offset : ℕ) : Type 0 where
  InTable : NextTokenIs bytes at (plain (codes "table")) → of_tables.FirstFault old bytes at k offset → FailsOwn old bytes at k offset
  InBody : (NextTokenIs bytes at (plain (codes "table")) → ⊥) → of_machines.FirstFault old bytes at k offset → FailsOwn old bytes at k offset

-- machines, as a kind of part
abbrev pub machine_parts : PartKind Machine_data
machine_parts = record {
  Begins = λ s. (s ≡ plain (codes "machine")) ⊎ (s ≡ plain (codes "table"));
  role_of = λ machine. machine.role;
  Spells = λ bytes at old new machine until. SpellsOwn bytes at old new machine until;
  Fails = λ old bytes at k offset. FailsOwn old bytes at k offset;
}

-- derivations, as a kind of part
abbrev pub derivation_parts : PartKind Derivation_data
derivation_parts = record {
  Begins = λ s. s ≡ plain (codes "derivation");
  role_of = λ derivation. derivation.role;
  Spells = λ bytes at old new derivation until. SpellsDerivation bytes at old new derivation until;
  Fails = λ old bytes at k offset. of_derivations.FirstFault old bytes at k offset;
}

-- such a part begins at the offset
abbrev pub BeginsAt : {A : Type 0} → PartKind A → List ℕ → ℕ → Type 0
BeginsAt kind bytes at = kind.Begins (next_lexeme bytes at).sign

-- no role has a part
abbrev pub no_parts : {A : Type 0} → List (List ℕ) → List (Option A)
no_parts roles = map (λ (name : List ℕ). None) roles

-- the parts so far, with one more in its role's place
abbrev pub parts_with : {A : Type 0} → PartKind A → List (Option A) → A → List (Option A)
parts_with kind parts part = slice_set parts (kind.role_of part).0 (Some part)

-- the second token of what begins at the offset is a role that has a part already; it stands at `second`
pub record IsTwice {A : Type 0} (bytes : List ℕ) (names : Names_data) (parts : List (Option A)) (at second : ℕ) : Type 0 where
  pub name : List ℕ
  pub word : NextTokenIs bytes (next_lexeme bytes at).until (plain name)
  pub place : ℕ
  pub role : place_of name names.roles ≡ Some place
  pub part : A
  pub has : slice_get parts place ≡ Some (Some part)
  pub stands : second ≡ (next_lexeme bytes (next_lexeme bytes at).until).from

-- what has come of parts: the names, for each role in order its part, and the offset behind them all
pub record PartsRead (A : Type 0) : Type 0 where
  pub names : Names_data
  pub parts : List (Option A)
  pub until : ℕ

-- what comes of the parts that stand behind the offset, with the names and the parts so far
pub data GoesOn {A : Type 0} (kind : PartKind A) (bytes : List ℕ) : (at : ℕ) → Names_data → List (Option A) → Result (PartsRead A) TextFault → Type 0 where
  -- no part stands there any more
  Stops : (at : ℕ) (names : Names_data) (parts : List (Option A)) → (BeginsAt kind bytes at → ⊥)
      → GoesOn kind bytes at names parts (Ok (record { names = names; parts = parts; until = at }))
  -- a part of a role that has one
  Repeats : (at second : ℕ) (names : Names_data) (parts : List (Option A)) → BeginsAt kind bytes at → IsTwice bytes names parts at second
      → GoesOn kind bytes at names parts (Err (record { kind = fault.NameTwice; at = second }))
  -- a part at fault
  Fails : (at offset : ℕ) (names : Names_data) (parts : List (Option A)) (k : TextKind) → BeginsAt kind bytes at
      → ((second : ℕ) → IsTwice bytes names parts at second → ⊥) → kind.Fails names bytes at k offset
      → GoesOn kind bytes at names parts (Err (record { kind = k; at = offset }))
  -- a part, and what stands behind it
  Adds : (at next : ℕ) (names new : Names_data) (parts : List (Option A)) (part : A) (row : Result (PartsRead A) TextFault) → BeginsAt kind bytes at
      → ((second : ℕ) → IsTwice bytes names parts at second → ⊥) → kind.Spells bytes at names new part next
      → GoesOn kind bytes next new (parts_with kind parts part) row → GoesOn kind bytes at names parts row
