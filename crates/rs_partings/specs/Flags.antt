-- Steps: flags of nodes, and the numbers of those that stand.
use Rattle.std.specs.Prelude.{◌≡◌, ◌↔◌, ℕ, ◌+◌, ◌<◌, Bool, true, false, not, ◌&&◌, List, [], ◌∷◌, length, replicate, slice_index_or, slice_set, if◌then◌else◌, Option, Some, None}
use Rattle.rs_model.specs.Data.{Protocol_data}
use Rattle.rs_model.specs.declared.graph.Role.{Role}
use Rattle.rs_project.specs.Graph.{PathStep, IsPath, Involves, IsIdle}
use Rattle.rs_project.specs.Marks.{IsOn, AllOn}

-- so many nodes have a flag, which stands where it holds of the node
pub record AreFlags (count : ℕ) (Holds : ℕ → Type 0) (flags : List Bool) : Type 0 where
  pub size : length flags ≡ count
  pub each : (n : ℕ) → n < count → IsOn flags n ↔ Holds n

-- node n is reached from a flagged start, on a path through flagged nodes
pub record IsReachedThrough (protocol : Protocol_data) (through starts : List Bool) (n : ℕ) : Type 0 where
  pub start : ℕ
  pub begins : IsOn starts start
  pub steps : List PathStep
  pub path : IsPath protocol start steps n
  pub earlier : AllOn through steps

-- node n reaches a flagged target, on a path through flagged nodes
pub record ReachesThrough (protocol : Protocol_data) (through targets : List Bool) (n : ℕ) : Type 0 where
  pub target : ℕ
  pub ends : IsOn targets target
  pub steps : List PathStep
  pub path : IsPath protocol n steps target
  pub earlier : AllOn through steps

-- the numbers of the flags that stand, in order, where the first flag has the number n
abbrev pub flagged : ℕ → List Bool → List ℕ
flagged n [] = []
flagged n (b ∷ bs) = if b then n ∷ flagged (n + 1) bs else flagged (n + 1) bs

-- the flag of one node stands alone; none where there is no such node
abbrev pub only_flag : ℕ → ℕ → List Bool
only_flag count n = slice_set (replicate count false) n true

-- each flag stands where that of the first list does and that of the second doesn't
pub record AreBut (ours theirs flags : List Bool) : Type 0 where
  pub size : length flags ≡ length ours
  pub each : (n : ℕ) → n < length ours → slice_index_or flags n false ≡ (slice_index_or ours n false && not (slice_index_or theirs n false))

-- the node is the member of a front itself: the talk, which involves the role, or a node that is idle for the role
abbrev pub IsMemberNode : Protocol_data → Role → Option ℕ → ℕ → Type 0
IsMemberNode protocol role (Some talk) n = (n ≡ talk) × Involves protocol role n
IsMemberNode protocol role None n = IsIdle protocol role n
