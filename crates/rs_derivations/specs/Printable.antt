-- Public: which derivations have a text, with given names.
use Rattle.std.specs.Prelude.{ℕ, ◌<◌, ◌≤◌, List, length, map, eqb}
use Rattle.std.specs.List.{All, flat_map}
use Rattle.std.specs.Set.{distinct_count}
use Rattle.rs_model.specs.Data.{Names_data}
use Rattle.rs_model.specs.declared.limits.TheConstants.{MOST_BOUND, MOST_LABELS, MOST_CANDIDATES}
use Rattle.rs_model.specs.declared.machines.Act.{Act}
use Rattle.rs_model.specs.declared.machines.Act.TheVariants.{Puts, Takes}
use Rattle.rs_derive.specs.Data.{Derivation_data}
use Rattle.rs_model.specs.Limits.{IsBound}

-- the number of the peer
abbrev pub peer_of : Act → ℕ
peer_of (Puts peer label sort) = peer.0
peer_of (Takes peer label sort) = peer.0

-- the number of the label
abbrev pub label_number : Act → ℕ
label_number (Puts peer label sort) = label.0
label_number (Takes peer label sort) = label.0

-- all pending acts, node by node
abbrev pub pending_acts : Derivation_data → List Act
pending_acts d = flat_map (λ n. n.pending) d.nodes

-- its own role and each peer have names
pub record RolesHaveNames (names : Names_data) (d : Derivation_data) : Type 0 where
  pub role : d.role.0 < length names.roles
  pub peers : All (λ a. peer_of a < length names.roles) (pending_acts d)

-- each label has a name
abbrev pub LabelsHaveNames : Names_data → Derivation_data → Type 0
LabelsHaveNames names d = All (λ a. label_number a < length names.labels) (pending_acts d)

-- there are at most 256 different labels
abbrev pub HasFewLabels : Derivation_data → Type 0
HasFewLabels d = distinct_count eqb (map label_number (pending_acts d)) ≤ MOST_LABELS

-- no node has more than 64 pending acts
abbrev pub HasShortLists : Derivation_data → Type 0
HasShortLists d = All (λ n. length n.pending ≤ MOST_BOUND) d.nodes

-- all that a text needs
pub record IsPrintable (names : Names_data) (d : Derivation_data) : Type 0 where
  pub roles : RolesHaveNames names d
  pub labels : LabelsHaveNames names d
  pub few_labels : HasFewLabels d
  pub short_lists : HasShortLists d
  pub bound : IsBound d.bound
  pub some : 1 ≤ length d.nodes
  pub nodes : length d.nodes ≤ MOST_CANDIDATES
