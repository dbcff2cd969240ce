-- Public: which documents are read again from their canonical text, and as what.
use Rattle.std.specs.Prelude.{◌≡◌, ℕ, ◌<◌, ◌≤◌, List, [], ◌∷◌, ◌++◌, length, map, Option, Some, None, option_map, slice_get}
use Rattle.std.specs.List.{flat_map}
use Rattle.rs_derivations.specs.Canonical.{tree_of}
use Rattle.rs_derivations.specs.Derivations.{acts_of, labels_of_acts}
use Rattle.rs_derivations.specs.Numbers.{AreSmall}
use Rattle.rs_derivations.specs.Printable.{label_number}
use Rattle.rs_derive.specs.Data.{DNode_data, Derivation_data}
use Rattle.rs_bodies.specs.Graph as graphs
use Rattle.rs_bodies.specs.declared.dialects.Dialect.TheVariants.{Talks, Acts}
use Rattle.rs_bodies.specs.declared.dialects.Mark.{Mark}
use Rattle.rs_machines.specs.Machines.{state_by_mark}
use Rattle.rs_model.specs.Data.{Names_data, Protocol_data, Machine_data}
use Rattle.rs_model.specs.declared.graph.Arm.{Arm}
use Rattle.rs_model.specs.declared.graph.Label.{Label}
use Rattle.rs_model.specs.declared.graph.Node.TheVariants.{Talk}
use Rattle.rs_model.specs.declared.graph.Role.{Role}
use Rattle.rs_model.specs.declared.limits.TheConstants.{MOST_LABELS}
use Rattle.rs_model.specs.declared.machines.Act.{Act}
use Rattle.rs_model.specs.declared.machines.Act.TheVariants as act
use Rattle.rs_model.specs.declared.machines.State.{State}
use Rattle.rs_model.specs.declared.machines.State.TheVariants as state
use Rattle.rs_tables.specs.Canonical as tables
use Rattle.rs_tables.specs.Machines.{labels_of_rows}
use Rattle.rs_text.specs.Names.{names_with, number_or, place_of}
use Rattle.rs_text.specs.NamePlaces.{name_at}
use Rattle.rs_documents.specs.Canonical.{AreCanonicalMachines, CanBeShown, IsCanonicalDocument, IsOwnText, IsLine, IsTable}
use Rattle.rs_documents.specs.Data.{Document_data}
use Rattle.rs_documents.specs.Parts.{PartKind, machine_parts, derivation_parts}

-- one place a role, and each part that is there in its role's place
pub record StandInPlaces {A : Type 0} (kind : PartKind A) (roles : List (List ℕ)) (parts : List (Option A)) : Type 0 where
  pub one_each : length parts ≡ length roles
  pub in_place : (k : ℕ) (part : A) → slice_get parts k ≡ Some (Some part) → (kind.role_of part).0 ≡ k

-- what can be shown, with at most 256 labels, its parts in their places and no number above 4,294,967,295
pub record CanBeReadAgain (d : Document_data) : Type 0 where
  pub shown : CanBeShown d
  pub bounded : length d.names.labels ≤ MOST_LABELS
  pub machines : StandInPlaces machine_parts d.names.roles d.machines
  pub derivations : StandInPlaces derivation_parts d.names.roles d.derivations
  pub small : (k : ℕ) (derivation : Derivation_data) → slice_get d.derivations k ≡ Some (Some derivation) → AreSmall derivation

-- the labels of a machine's text, in order of text
abbrev pub labels_of_own_text : (names : Names_data) (machine : Machine_data) (text : List ℕ) → IsOwnText names machine text → List (List ℕ)
labels_of_own_text names machine text (IsLine line shaped is) = graphs.labels_of Acts is.tree.body
labels_of_own_text names machine text (IsTable unshaped) = labels_of_rows (tables.tree_of names machine).rows

-- the labels of the machines' texts, in order of text
abbrev pub labels_of_lines : (names : Names_data) (machines : List (Option Machine_data)) (text : List ℕ) → AreCanonicalMachines names machines text → List (List ℕ)
labels_of_lines names [] text lines = []
labels_of_lines names (None ∷ machines) text lines = labels_of_lines names machines text lines
labels_of_lines names (Some machine ∷ machines) text lines = labels_of_own_text names machine lines.0 lines.2 ++ labels_of_lines names machines lines.1 lines.3

-- the labels of a derivation's lines
abbrev pub labels_of_own : Names_data → Option Derivation_data → List (List ℕ)
labels_of_own names None = []
labels_of_own names (Some derivation) = labels_of_acts (acts_of (tree_of names derivation))

-- the labels of the whole text, each once, in order of first places
abbrev pub labels_of_text : (d : Document_data) (text : List ℕ) → IsCanonicalDocument d text → List (List ℕ)
labels_of_text d text canonical =
    names_with [] (graphs.labels_of Talks canonical.protocol.tree.body ++ (labels_of_lines d.names d.machines canonical.back canonical.machines ++ flat_map (labels_of_own d.names) d.derivations))

-- the number, among other labels, of the label that has this number
abbrev pub number_among : (labels others : List (List ℕ)) → ℕ → ℕ
number_among labels others k = number_or (place_of (name_at labels k) others)

-- a label, an arm, a state and a machine with other numbers for labels
abbrev pub label_by : (ℕ → ℕ) → Label → Label
label_by number label = record { 0 = number label.0 }

-- an arm with other numbers for labels
abbrev pub arm_by : (ℕ → ℕ) → Arm → Arm
arm_by number arm = record { label = label_by number arm.label; sort = arm.sort; next = arm.next }

-- a state with other numbers for labels
abbrev pub state_by : (ℕ → ℕ) → State → State
state_by number state.Done = state.Done
state_by number (state.Puts peer arms) = state.Puts peer (map (arm_by number) arms)
state_by number (state.Takes peer arms) = state.Takes peer (map (arm_by number) arms)

-- a machine with other numbers for labels
abbrev pub machine_by : (ℕ → ℕ) → Machine_data → Machine_data
machine_by number machine = record { role = machine.role; states = map (state_by number) machine.states; start = machine.start }

-- the same of acts and derivations
abbrev pub act_by : (ℕ → ℕ) → Act → Act
act_by number (act.Puts peer label sort) = act.Puts peer (label_by number label) sort
act_by number (act.Takes peer label sort) = act.Takes peer (label_by number label) sort

-- a node of a derivation, with other numbers for labels
abbrev pub node_by : (ℕ → ℕ) → DNode_data → DNode_data
node_by number n = record { state = n.state; pending = map (act_by number) n.pending; above = n.above; rank = n.rank; next = n.next }

-- a derivation, with other numbers for labels
abbrev pub derivation_by : (ℕ → ℕ) → Derivation_data → Derivation_data
derivation_by number derivation = record { role = derivation.role; bound = derivation.bound; nodes = map (node_by number) derivation.nodes }

-- the document with these labels: each label of a machine or a derivation has the number that its name has among them.
-- The protocol stays as it is
abbrev pub document_by_labels : Document_data → List (List ℕ) → Document_data
document_by_labels d labels = record {
  names = record { roles = d.names.roles; labels = labels };
  protocol = d.protocol;
  machines = map (option_map (machine_by (number_among d.names.labels labels))) d.machines;
  derivations = map (option_map (derivation_by (number_among d.names.labels labels))) d.derivations;
}

-- an arm of the protocol has the label of this number
pub record HasLabel (protocol : Protocol_data) (k : ℕ) : Type 0 where
  pub node : ℕ
  pub sender : Role
  pub receiver : Role
  pub arms : List Arm
  pub talks : slice_get protocol.nodes node ≡ Some (Talk sender receiver arms)
  pub place : ℕ
  pub arm : Arm
  pub stands : slice_get arms place ≡ Some arm
  pub number : arm.label.0 ≡ k

-- an act of a machine, or a pending act of a derivation, has the label of this number
pub data HasLabelBehind (d : Document_data) (k : ℕ) : Type 0 where
  InMachine : (role n place : ℕ) (machine : Machine_data) (mark : Mark) (peer : Role) (arms : List Arm) (arm : Arm) → slice_get d.machines role ≡ Some (Some machine)
      → slice_get machine.states n ≡ Some (state_by_mark mark peer arms) → slice_get arms place ≡ Some arm → arm.label.0 ≡ k → HasLabelBehind d k
  InDerivation : (role n place : ℕ) (derivation : Derivation_data) (node : DNode_data) (a : Act) → slice_get d.derivations role ≡ Some (Some derivation)
      → slice_get derivation.nodes n ≡ Some node → slice_get node.pending place ≡ Some a → label_number a ≡ k → HasLabelBehind d k

-- every label that has a name stands in the protocol
abbrev pub HasAllLabels : Names_data → Protocol_data → Type 0
HasAllLabels names protocol = (k : ℕ) → k < length names.labels → HasLabel protocol k
