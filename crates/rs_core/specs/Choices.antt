-- Public: what the laws ask of machines.
use Rattle.std.specs.Prelude.{◌≡◌, ℕ, List, [], Some, slice_get, length}
use Rattle.rs_model.specs.Data.{Machine_data}
use Rattle.rs_model.specs.WellFormed.{IsWellFormedMachine}
use Rattle.rs_model.specs.declared.graph.Arm.{Arm}
use Rattle.rs_model.specs.declared.graph.Role.{Role}
use Rattle.rs_model.specs.declared.machines.State.TheVariants.{Puts, Takes}

-- no state is a choice among no sends
abbrev pub HaveArms : List Machine_data → Type 0
HaveArms machines = (p s : ℕ) (m : Machine_data) (peer : Role) → slice_get machines p ≡ Some m
    → slice_get m.states s ≡ Some (Puts peer []) → ⊥

-- in a state that takes, no label stands at two places
abbrev pub HaveLabelsOnce : List Machine_data → Type 0
HaveLabelsOnce machines = (p s : ℕ) (m : Machine_data) (peer : Role) (arms : List Arm) → slice_get machines p ≡ Some m
    → slice_get m.states s ≡ Some (Takes peer arms)
    → (i j : ℕ) (one other : Arm) → slice_get arms i ≡ Some one → slice_get arms j ≡ Some other
    → one.label ≡ other.label → i ≡ j

-- the machines are those of the roles in order, and each is well formed among so many roles
pub record AreWellFormed (machines : List Machine_data) : Type 0 where
  pub role : (p : ℕ) (m : Machine_data) → slice_get machines p ≡ Some m → m.role.0 ≡ p
  pub fits : (p : ℕ) (m : Machine_data) → slice_get machines p ≡ Some m → IsWellFormedMachine m (length machines)
