-- Public: the canonical text of a document.
use Rattle.std.specs.Prelude.{◌≡◌, ◌⊎◌, ℕ, List, [], ◌∷◌, ◌++◌, Option, Some, None, slice_get}
use Rattle.std.specs.List.{flat_map}
use Rattle.rs_derivations.specs.Canonical.{canonical_text}
use Rattle.rs_derivations.specs.Printable.{IsPrintable}
use Rattle.rs_derive.specs.Data.{Derivation_data}
use Rattle.rs_model.specs.Data.{Names_data, Machine_data}
use Rattle.rs_global.specs.Canonical.{IsCanonicalProtocolText, IsTextShaped}
use Rattle.rs_global.specs.Enough.{AreEnough}
use Rattle.rs_machines.specs.Canonical.{IsCanonicalMachineText, IsMachineTextShaped}
use Rattle.rs_machines.specs.Enough.{AreEnoughFor}
use Rattle.rs_tables.specs.Printable.{IsTabled}
use Rattle.rs_tables.specs.Tables.{table_of}
use Rattle.rs_text.specs.Sound.{IsSound}
use Rattle.rs_documents.specs.Data.{Document_data}

-- the canonical text of a machine: its line where some body of acts reads to it, and else its table
pub data IsOwnText (names : Names_data) (machine : Machine_data) : List ℕ → Type 0 where
  IsLine : (line : List ℕ) → IsMachineTextShaped machine → IsCanonicalMachineText names machine line → IsOwnText names machine line
  IsTable : (IsMachineTextShaped machine → ⊥) → IsOwnText names machine (table_of names machine)

-- the text of each machine that is there, in role order
abbrev pub AreCanonicalMachines : Names_data → List (Option Machine_data) → List ℕ → Type 0
AreCanonicalMachines names [] text = text ≡ []
AreCanonicalMachines names (None ∷ machines) text = AreCanonicalMachines names machines text
AreCanonicalMachines names (Some machine ∷ machines) text =
    (own : List ℕ) × (later : List ℕ) × IsOwnText names machine own × AreCanonicalMachines names machines later × (text ≡ own ++ later)

-- the lines of a derivation that is there
abbrev pub own_text : Names_data → Option Derivation_data → List ℕ
own_text names None = []
own_text names (Some derivation) = canonical_text names derivation

-- the texts of all derivations that are there, in role order
abbrev pub derivations_text : Names_data → List (Option Derivation_data) → List ℕ
derivations_text names derivations = flat_map (own_text names) derivations

-- the roles line and the protocol, then the machines, and then the derivations
pub record IsCanonicalDocument (d : Document_data) (text : List ℕ) : Type 0 where
  pub front : List ℕ
  pub back : List ℕ
  pub protocol : IsCanonicalProtocolText d.names d.protocol front
  pub machines : AreCanonicalMachines d.names d.machines back
  pub whole : text ≡ front ++ (back ++ derivations_text d.names d.derivations)

-- the machine can be written by these names: some body of acts or some table reads to it
pub record CanBeWritten (names : Names_data) (machine : Machine_data) : Type 0 where
  pub enough : AreEnoughFor names machine
  pub shaped : IsMachineTextShaped machine ⊎ IsTabled names machine

-- the machine, where it is there, can be printed by these names
abbrev pub CanBePrinted : Names_data → Option Machine_data → Type 0
CanBePrinted names None = Unit {0}
CanBePrinted names (Some machine) = CanBeWritten names machine

-- all machines can be printed
abbrev pub AreShown : Names_data → List (Option Machine_data) → Type 0
AreShown names [] = Unit {0}
AreShown names (own ∷ machines) = CanBePrinted names own × AreShown names machines

-- the derivations that are there can be printed by these names
abbrev pub ArePrintable : Names_data → List (Option Derivation_data) → Type 0
ArePrintable names derivations = (k : ℕ) (derivation : Derivation_data) → slice_get derivations k ≡ Some (Some derivation) → IsPrintable names derivation

-- all that is printed of a document
pub record CanBeShown (d : Document_data) : Type 0 where
  pub sound : IsSound d.names
  pub shaped : IsTextShaped d.protocol
  pub enough : AreEnough d.names d.protocol
  pub machines : AreShown d.names d.machines
  pub derivations : ArePrintable d.names d.derivations

-- the machine's text was written behind what was there
abbrev pub IsMachineBehind : Names_data → Machine_data → List ℕ → List ℕ → Type 0
IsMachineBehind names machine old new = (own : List ℕ) × IsOwnText names machine own × (new ≡ old ++ own)

-- a machine's text stands behind, where there is one, else nothing was written
abbrev pub IsLineBehind : Names_data → Option Machine_data → List ℕ → List ℕ → Type 0
IsLineBehind names None old new = new ≡ old
IsLineBehind names (Some machine) old new = IsMachineBehind names machine old new

-- the machines were written behind what was there
abbrev pub IsShownBehind : Names_data → List (Option Machine_data) → List ℕ → List ℕ → Type 0
IsShownBehind names machines old new = (later : List ℕ) × AreCanonicalMachines names machines later × (new ≡ old ++ later)
