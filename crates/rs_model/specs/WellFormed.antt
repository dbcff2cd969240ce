-- Public: what is asked of a machine of one of so many roles.
use Rattle.std.specs.Prelude.{◌≡◌, ◌≢◌, ℕ, ◌<◌, List, [], length, slice_get, Some}
use Rattle.rs_model.specs.Data.{Machine_data}
use Rattle.rs_model.specs.declared.graph.Arm.{Arm}
use Rattle.rs_model.specs.declared.graph.Role.{Role}
use Rattle.rs_model.specs.declared.machines.State.TheVariants.{Puts, Takes}

-- a state that puts to the peer or takes from it is right: it has arms, the peer is another role and one of the roles, no label stands at two arms, and each arm leads to a state
pub record StateFits (machine : Machine_data) (roles : ℕ) (peer : Role) (arms : List Arm) : Type 0 where
  pub some : arms ≢ []
  pub other : peer ≢ machine.role
  pub known : peer.0 < roles
  pub once : (i j : ℕ) (a b : Arm) → slice_get arms i ≡ Some a → slice_get arms j ≡ Some b → a.label ≡ b.label → i ≡ j
  pub nexts : (i : ℕ) (a : Arm) → slice_get arms i ≡ Some a → a.next < length machine.states

-- the machine is that of one of the roles, it starts at a state, and each state that puts or takes is right
pub record IsWellFormedMachine (machine : Machine_data) (roles : ℕ) : Type 0 where
  pub role : machine.role.0 < roles
  pub start : machine.start < length machine.states
  pub puts : (s : ℕ) (peer : Role) (arms : List Arm) → slice_get machine.states s ≡ Some (Puts peer arms) → StateFits machine roles peer arms
  pub takes : (s : ℕ) (peer : Role) (arms : List Arm) → slice_get machine.states s ≡ Some (Takes peer arms) → StateFits machine roles peer arms
