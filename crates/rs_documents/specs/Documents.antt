-- Public: what a text spells as a document, and its first fault.
use Rattle.std.specs.Prelude.{◌≡◌, ℕ, List, Option, Some, None, Ok, Err, ◌==◌, if◌then◌else◌}
use Rattle.rs_documents.specs.Data.{Document_data}
use Rattle.rs_documents.specs.Parts.{NextTokenIs, no_parts, PartsRead, GoesOn, machine_parts, derivation_parts}
use Rattle.rs_derive.specs.Data.{Derivation_data}
use Rattle.rs_global.specs.Faults as of_protocols
use Rattle.rs_global.specs.Spells.{SpellsProtocol}
use Rattle.rs_model.specs.Data.{Names_data, Protocol_data, Machine_data}
use Rattle.rs_text.specs.Faults.{kind_of}
use Rattle.rs_text.specs.Lexing.{next_lexeme}
use Rattle.rs_text.specs.Signs.{Sign, finish, broken}
use Rattle.rs_text.specs.declared.faults.TextKind.{TextKind}
use Rattle.rs_text.specs.declared.faults.TextKind.TheVariants as kind
use Rattle.rs_text.specs.declared.faults.Wanted.{Wanted}
use Rattle.rs_text.specs.declared.faults.Wanted.TheVariants as wanted

-- a protocol stands at the begin of the bytes, and behind it all machines
pub record SpellsFront (bytes : List ℕ) (protocol : Protocol_data) (front : PartsRead Machine_data) : Type 0 where
  pub names : Names_data
  pub until : ℕ
  pub protocol_is : SpellsProtocol bytes 0 names protocol until
  pub machines_are : GoesOn machine_parts bytes until names (no_parts names.roles) (Ok front)

-- the derivations stand behind the protocol and all machines
pub record SpellsParts (bytes : List ℕ) (protocol : Protocol_data) (front : PartsRead Machine_data) (back : PartsRead Derivation_data) : Type 0 where
  pub front_is : SpellsFront bytes protocol front
  pub derivations_are : GoesOn derivation_parts bytes front.until front.names (no_parts front.names.roles) (Ok back)

-- the bytes spell the document: a protocol, machines and derivations, and then their end
pub record SpellsDocument (bytes : List ℕ) (d : Document_data) : Type 0 where
  pub next : ℕ
  pub before : Names_data
  pub end : ℕ
  pub parts : SpellsParts bytes d.protocol (record { names = before; parts = d.machines; until = next }) (record { names = d.names; parts = d.derivations; until = end })
  pub ends : NextTokenIs bytes end finish

-- the fault of a token behind all parts: it isn't the end
abbrev pub fault_behind : Wanted → Sign → Option TextKind
fault_behind wanted finish = None
fault_behind wanted (broken k) = Some (kind_of k)
fault_behind wanted _ = Some (kind.Expected wanted)

-- behind a derivation no machine may stand
abbrev pub wanted_behind : (machines derivations : ℕ) → Wanted
wanted_behind machines derivations = if derivations == machines then wanted.PartOrEnd else wanted.DerivationOrEnd

-- the first fault of a text
pub data FirstFault (bytes : List ℕ) (kind : TextKind) : (at : ℕ) → Type 0 where
  -- it is the protocol's
  InProtocol : (at : ℕ) → of_protocols.FirstFault bytes 0 kind at → FirstFault bytes kind at
  -- it lies in the machines behind the protocol
  InMachines : (at : ℕ) (names : Names_data) (protocol : Protocol_data) (until : ℕ) → SpellsProtocol bytes 0 names protocol until
      → GoesOn machine_parts bytes until names (no_parts names.roles) (Err (record { kind = kind; at = at })) → FirstFault bytes kind at
  -- it lies in the derivations behind the machines
  InDerivations : (at : ℕ) (protocol : Protocol_data) (front : PartsRead Machine_data) → SpellsFront bytes protocol front
      → GoesOn derivation_parts bytes front.until front.names (no_parts front.names.roles) (Err (record { kind = kind; at = at })) → FirstFault bytes kind at
  -- something stands behind all parts
  BehindParts : (protocol : Protocol_data) (front : PartsRead Machine_data) (back : PartsRead Derivation_data) → SpellsParts bytes protocol front back
      → fault_behind (wanted_behind front.until back.until) (next_lexeme bytes back.until).sign ≡ Some kind → FirstFault bytes kind back.until
