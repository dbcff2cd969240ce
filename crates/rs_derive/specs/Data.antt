-- Public: what contracts see of the types that hold vectors: the same fields, each vector as its list.
use Rattle.std.specs.Prelude.{ℕ, List}
use Rattle.rs_model.specs.declared.graph.Role.{Role}
use Rattle.rs_model.specs.declared.machines.Act.{Act}

-- a node of a derivation: its spot, its rank, and the nodes to which its move leads
pub record DNode_data : Type 0 where
  pub state : ℕ
  pub pending : List Act
  pub above : ℕ
  pub rank : ℕ
  pub next : List ℕ

-- a derivation for a role: how many acts may be owed, and its nodes, of which the first is the start
pub record Derivation_data : Type 0 where
  pub role : Role
  pub bound : ℕ
  pub nodes : List DNode_data
