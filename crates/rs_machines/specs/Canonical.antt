-- Public: the canonical text of a machine, and which machines have one.
use Rattle.std.specs.Prelude.{ℕ, ◌≤◌, List, length}
use Rattle.rs_model.specs.Data.{Machine_data, Names_data}
use Rattle.rs_model.specs.declared.limits.TheConstants.{MOST_LABELS, MOST_ROLES}
use Rattle.rs_text.specs.Sound.{IsSound}
use Rattle.rs_bodies.specs.CanonicalGraphs.{IsCanonicalTree, IsCanonicalGraphText}
use Rattle.rs_machines.specs.Kinds.{machines}
use Rattle.rs_machines.specs.Spells.{SpellsMachine}
use Rattle.rs_machines.specs.Trees.{MachineTree}

-- some machine part reads to the machine, with names that a reader has: they are sound, and within their limits
pub record IsMachineTextShaped (machine : Machine_data) : Type 0 where
  pub bytes : List ℕ
  pub at : ℕ
  pub old : Names_data
  pub sound : IsSound old
  pub few_roles : length old.roles ≤ MOST_ROLES
  pub few_labels : length old.labels ≤ MOST_LABELS
  pub new : Names_data
  pub until : ℕ
  pub spells : SpellsMachine bytes at old new machine until

-- the tree that the canonical text has: the name of the role, and the body that is written for the places of the machine
abbrev pub IsCanonicalMachineTree : Names_data → Machine_data → MachineTree → Type 0
IsCanonicalMachineTree names machine tree = IsCanonicalTree machines names machine tree

-- the canonical text
abbrev pub IsCanonicalMachineText : Names_data → Machine_data → (text : List ℕ) → Type 0
IsCanonicalMachineText names machine text = IsCanonicalGraphText machines names machine text
