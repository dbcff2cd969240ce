-- Headline: what contracts see of the types that hold vectors: the same fields, each vector as its list.
use Rattle.std.specs.Prelude.{ℕ, List}
use Rattle.rs_model.specs.declared.graph.Node.{Node}
use Rattle.rs_model.specs.declared.graph.Role.{Role}
use Rattle.rs_model.specs.declared.machines.State.{State}

-- a name is its bytes
pub record Names_data : Type 0 where
  pub roles : List (List ℕ)
  pub labels : List (List ℕ)

-- a protocol: how many roles it has, its nodes, and the number of the first
pub record Protocol_data : Type 0 where
  pub roles : ℕ
  pub nodes : List Node
  pub root : ℕ

-- a machine: its role, its states, and the number of the first
pub record Machine_data : Type 0 where
  pub role : Role
  pub states : List State
  pub start : ℕ
