-- A document is read part by part.
use Rattle.std.proofs.Common.{◌≡◌, ◌⊎◌, ℕ, ◌≤◌, ◌+◌, List, length, Option, Some, None, Result, Ok, Err, IfErr, sym, subst, inl, inr}
use Rattle.rs_derive.specs.Data.{Derivation_data}
use Rattle.rs_documents.specs.Documents.{SpellsFront, SpellsParts, SpellsDocument, fault_behind, wanted_behind, FirstFault, InProtocol, InMachines, InDerivations, BehindParts}
use Rattle.rs_documents.specs.Parts.{GoesOn, machine_parts, derivation_parts, no_parts}
use Rattle.rs_documents.specs.Reading.{AreGood, MachinesAreHeld}
use Rattle.rs_documents.specs.Ready.{DerivationsAreHeld, DocumentIsReady}
use Rattle.rs_documents.proofs.OneDocument.{document_is, nothing_behind}
use Rattle.rs_documents.proofs.Parts.{good, row_of}
use Rattle.rs_global.specs.Faults as of_protocols
use Rattle.rs_global.specs.Spells.{SpellsProtocol}
use Rattle.rs_model.specs.Data.{Names_data, Protocol_data, Machine_data}
use Rattle.rs_model.specs.declared.limits.TheConstants.{MOST_TALKS}
use Rattle.rs_text.specs.FirstFaults.{IsRefusal}
use Rattle.rs_text.specs.Lexing.{next_lexeme}
use Rattle.rs_text.specs.declared.faults.TextFault.{TextFault}
use Rattle.rs_text.specs.declared.faults.TextKind.{TextKind}
use Rattle.rs_text.specs.declared.faults.TextKind.TheVariants as kind

-- what is told of a reading that failed
abbrev Told : List ℕ → TextFault → Type 0
Told bytes f = (f.kind ≡ kind.NoMemory) ⊎ FirstFault bytes f.kind f.at

refused : (First Other : TextKind → ℕ → Type 0) (bytes : List ℕ) (e : TextFault) → (First e.kind e.at → Other e.kind e.at) → IsRefusal First bytes e → IsRefusal Other bytes e
refused First Other bytes e f h = record { fault = by_cases h.fault; within = h.within }
  where
    by_cases : (e.kind ≡ kind.NoMemory) ⊎ First e.kind e.at → (e.kind ≡ kind.NoMemory) ⊎ Other e.kind e.at
    by_cases (inl memory) = inl memory
    by_cases (inr g) = inr (f g)

-- the fault of a table or of a body is the machine's
pub refused_by : {B : Type 0} (result : Result B TextFault) (First Other : TextKind → ℕ → Type 0) (bytes : List ℕ) → ((k : TextKind) (offset : ℕ) → First k offset → Other k offset)
    → IfErr result (IsRefusal First bytes) → IfErr result (IsRefusal Other bytes)
refused_by (Ok x) First Other bytes f h = h
refused_by (Err e) First Other bytes f h = refused First Other bytes e (f e.kind e.at) h

-- and so is what it leaves
pub left_by : {B : Type 0} (result : Result B TextFault) (Left Other : TextKind → ℕ → Type 0) → ((k : TextKind) (offset : ℕ) → Left k offset → Other k offset) → IfErr result (λ e. Left e.kind e.at)
    → IfErr result (λ e. Other e.kind e.at)
left_by (Ok x) Left Other f h = h
left_by (Err e) Left Other f h = f e.kind e.at h

pub in_protocol : (bytes : List ℕ) (f : TextFault) → (f.kind ≡ kind.NoMemory) ⊎ of_protocols.FirstFault bytes 0 f.kind f.at → Told bytes f
in_protocol bytes f (inl memory) = inl memory
in_protocol bytes f (inr h) = inr (InProtocol f.at h)

pub in_machines : (bytes : List ℕ) (names old : Names_data) (p : Protocol_data) (until : ℕ) (f : TextFault) → SpellsProtocol bytes 0 names p until → old ≡ names
    → (f.kind ≡ kind.NoMemory) ⊎ GoesOn machine_parts bytes until old (no_parts old.roles) (Err f) → Told bytes f
in_machines bytes names old p until f s e (inl memory) = inl memory
in_machines bytes names old p until f s e (inr h) = inr (InMachines f.at names p until s (subst (λ (n : Names_data). GoesOn machine_parts bytes until n (no_parts n.roles) (Err f)) e h))

pub front_by : (bytes : List ℕ) (names old new : Names_data) (p : Protocol_data) (until next : ℕ) (machines : List (Option Machine_data)) → SpellsProtocol bytes 0 names p until → old ≡ names
    → GoesOn machine_parts bytes until old (no_parts old.roles) (good (row_of new machines next)) → SpellsFront bytes p (row_of new machines next)
front_by bytes names old new p until next machines s e h =
    record { names = names; until = until; protocol_is = s; machines_are = subst (λ (n : Names_data). GoesOn machine_parts bytes until n (no_parts n.roles) (good (row_of new machines next))) e h }

pub in_derivations : (bytes : List ℕ) (p : Protocol_data) (names old : Names_data) (machines : List (Option Machine_data)) (next : ℕ) (f : TextFault) → SpellsFront bytes p (row_of names machines next)
    → old ≡ names
    → (f.kind ≡ kind.NoMemory) ⊎ GoesOn derivation_parts bytes next old (no_parts old.roles) (Err f) → Told bytes f
in_derivations bytes p names old machines next f s e (inl memory) = inl memory
in_derivations bytes p names old machines next f s e (inr h) =
    inr (InDerivations f.at p (row_of names machines next) s (subst (λ (n : Names_data). GoesOn derivation_parts bytes next n (no_parts n.roles) (Err f)) e h))

pub parts_by : (bytes : List ℕ) (p : Protocol_data) (names old new : Names_data) (machines : List (Option Machine_data)) (derivations : List (Option Derivation_data)) (next end : ℕ)
    → SpellsFront bytes p (row_of names machines next) → old ≡ names
    → GoesOn derivation_parts bytes next old (no_parts old.roles) (good (row_of new derivations end)) → SpellsParts bytes p (row_of names machines next) (row_of new derivations end)
parts_by bytes p names old new machines derivations next end s e h =
    record { front_is = s; derivations_are = subst (λ (n : Names_data). GoesOn derivation_parts bytes next n (no_parts n.roles) (good (row_of new derivations end))) e h }

pub behind_parts : (bytes : List ℕ) (p : Protocol_data) (names new : Names_data) (machines : List (Option Machine_data)) (derivations : List (Option Derivation_data)) (next end : ℕ) (k : TextKind)
    → SpellsParts bytes p (row_of names machines next) (row_of new derivations end)
    → fault_behind (wanted_behind next end) (next_lexeme bytes end).sign ≡ Some k → (k ≡ kind.NoMemory) ⊎ FirstFault bytes k end
behind_parts bytes p names new machines derivations next end k s e = inr (BehindParts p (row_of names machines next) (row_of new derivations end) s e)

pub whole : (bytes : List ℕ) (p : Protocol_data) (names new : Names_data) (machines : List (Option Machine_data)) (derivations : List (Option Derivation_data)) (next end : ℕ)
    → SpellsParts bytes p (row_of names machines next) (row_of new derivations end)
    → fault_behind (wanted_behind next end) (next_lexeme bytes end).sign ≡ None → SpellsDocument bytes (record { names = new; protocol = p; machines = machines; derivations = derivations })
whole bytes p names new machines derivations next end s e = document_is bytes p (row_of names machines next) (row_of new derivations end) s (nothing_behind _ _ e)

pub ready : (p : Protocol_data) (names new : Names_data) (machines : List (Option Machine_data)) (derivations : List (Option Derivation_data)) → MachinesAreHeld names.roles machines → AreGood new
    → DerivationsAreHeld new.roles derivations → new.roles ≡ names.roles
    → length p.nodes ≤ MOST_TALKS + 1 → length new.roles ≡ p.roles → DocumentIsReady (record { names = new; protocol = p; machines = machines; derivations = derivations })
ready p names new machines derivations h g d roles nodes each =
    let held : MachinesAreHeld new.roles machines = subst (λ (r : List (List ℕ)). MachinesAreHeld r machines) (sym roles) h in
    record {
      sound = g.readable.sound;
      two = g.two;
      roles = g.readable.roles;
      a_name_each = each;
      labels = g.readable.labels;
      one_each = held.one_each;
      short = held.all;
      in_place = held.in_place;
      nodes = nodes;
      derivations = d;
    }
