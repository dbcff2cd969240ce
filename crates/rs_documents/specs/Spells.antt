-- Headline: which protocol and machines a text spells.
use Rattle.std.specs.Prelude.{◌≡◌, ◌⊎◌, ℕ, List, codes, map, Option, Some, None, slice_get, slice_set}
use Rattle.rs_model.specs.Data.{Names_data, Protocol_data, Machine_data}
use Rattle.rs_model.specs.declared.graph.Role.{Role}
use Rattle.rs_global.specs.Spells.{SpellsProtocol}
use Rattle.rs_machines.specs.Spells.{SpellsMachine}
use Rattle.rs_tables.specs.Spells.{SpellsTable}
use Rattle.rs_text.specs.Lexemes.{Lexeme}
use Rattle.rs_text.specs.Signs.{finish, plain}
use Rattle.rs_text.specs.Tokens.{IsNext}

-- no machine stands behind the offset any more: the text ends there, or the word `derivation` is next
abbrev pub HasNoMachineBehind : List ℕ → ℕ → Type 0
HasNoMachineBehind bytes at = (l : Lexeme) × IsNext bytes at l × ((l.sign ≡ finish) ⊎ (l.sign ≡ plain (codes "derivation")))

-- the bytes from `at` on, read with the old names, spell this machine with the new ones, as a body of acts or as a table of
-- its states, and go on at `until`
abbrev pub SpellsOwn : (bytes : List ℕ) → (at : ℕ) → (old new : Names_data) → Machine_data → (until : ℕ) → Type 0
SpellsOwn bytes at old new machine until = SpellsMachine bytes at old new machine until ⊎ SpellsTable bytes at old new machine until

-- the role has one of the machines
abbrev pub HasMachine : List (Option Machine_data) → Role → Type 0
HasMachine machines role = (machine : Machine_data) × (slice_get machines role.0 ≡ Some (Some machine))

-- no role has a machine
abbrev pub no_machines : List (List ℕ) → List (Option Machine_data)
no_machines roles = map (λ (name : List ℕ). None) roles

-- the machines so far, with one more
abbrev pub with_machine : List (Option Machine_data) → Machine_data → List (Option Machine_data)
with_machine machines machine = slice_set machines machine.role.0 (Some machine)

-- with the names and the machines so far, what stands behind the offset makes all machines of the text
pub data MachinesBehind (bytes : List ℕ) : (at : ℕ) → Names_data → List (Option Machine_data) → (all : List (Option Machine_data)) → Type 0 where
  -- nothing more: they are all
  NoMore : (at : ℕ) (names : Names_data) (machines : List (Option Machine_data)) → HasNoMachineBehind bytes at → MachinesBehind bytes at names machines machines
  -- one more machine, of a role that has none so far, and what stands behind it
  OneMore : (at next : ℕ) (names new : Names_data) (machines : List (Option Machine_data)) (machine : Machine_data) (all : List (Option Machine_data))
      → SpellsOwn bytes at names new machine next → (HasMachine machines machine.role → ⊥)
      → MachinesBehind bytes next new (with_machine machines machine) all → MachinesBehind bytes at names machines all

-- the bytes spell the protocol and these machines: it stands at their begin, and they behind it
pub record SpellsMachines (bytes : List ℕ) (protocol : Protocol_data) (machines : List (Option Machine_data)) : Type 0 where
  pub names : Names_data
  pub until : ℕ
  pub protocol_is : SpellsProtocol bytes 0 names protocol until
  pub machines_are : MachinesBehind bytes until names (no_machines names.roles) machines
