-- Steps: flags that nodes get whose arms all lead to flagged nodes.
use Rattle.std.specs.Prelude.{◌≡◌, ℕ, Bool, true, false, List, [], ◌∷◌, slice_index_or, slice_set, if◌then◌else◌}
use Rattle.rs_model.specs.Data.{Protocol_data}
use Rattle.rs_model.specs.declared.graph.Arm.{Arm}
use Rattle.rs_model.specs.declared.graph.Role.{Role}
use Rattle.rs_project.specs.Graph.{IsUnreached}
use Rattle.rs_project.specs.Marks.{GoesOn, IsOn, any_on}

-- all arms lead to flagged nodes
abbrev pub all_on : List Bool → List Arm → Bool
all_on flags [] = true
all_on flags (a ∷ arms) = if slice_index_or flags a.next false then all_on flags arms else false

-- no unreached node is flagged
abbrev pub HasNoUnreached : Protocol_data → Role → List Bool → Type 0
HasNoUnreached protocol role flags = (n : ℕ) → IsUnreached protocol role n → IsOn flags n → ⊥

-- the arms of node n lead to flagged nodes, to these alone where that is asked, and the node is marked as passing by, and its
-- run goes on
pub record MarksNode (arms : List Arm) (n : ℕ) (by_all : Bool) (awaited passing : List Bool) (ends : List ℕ) (awaited' passing' : List Bool) (ends' : List ℕ) : Type 0 where
  pub some : any_on awaited arms ≡ true
  pub all : by_all ≡ true → all_on awaited arms ≡ true
  pub is_awaited : awaited' ≡ slice_set awaited n true
  pub is_passing : passing' ≡ slice_set passing n true
  pub goes_on : GoesOn arms n ends ends'
