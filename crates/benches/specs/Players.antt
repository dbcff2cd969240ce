-- Steps: players, each with the pass of one role.
use Rattle.std.specs.Prelude.{◌≡◌, ℕ, List, [], ◌∷◌, length, Some, slice_get}
use Rattle.rs_model.specs.Data.{Machine_data}
use Rattle.rs_model.specs.declared.graph.Arm.{Arm}
use Rattle.rs_model.specs.declared.graph.Role.{Role}
use Rattle.rs_model.specs.declared.machines.State.TheVariants.{Takes}
use Rattle.rs_core.specs.Configurations.{state_of}
use Rattle.rs_rings.specs.Passes.{Rings_data, Pass_data}
use Rattle.rs_rings.specs.Views.{SpeaksFor, state_in, history_in}
use Rattle.benches.specs.declared.ring_players.RingPlayer.{RingPlayer}

-- the pass of these rings speaks for the role, which is in that state and has made that number of acts
pub record PassStands (rings : Rings_data) (pass : Pass_data) (role state acts : ℕ) : Type 0 where
  pub table : pass.table ≡ rings.table
  pub speaks : SpeaksFor pass.view role
  pub at : state_in pass.view role ≡ state
  pub many : length (history_in pass.view role) ≡ acts

-- what the player says of its role is so
abbrev pub IsAt : Rings_data → RingPlayer → Type 0
IsAt rings player = PassStands rings player.pass player.role.0 player.state player.acts

-- role q, in state s, takes from p one label alone, and goes on to the state `next`
pub record TakesOne (machines : List Machine_data) (q : ℕ) (p : Role) (s next : ℕ) : Type 0 where
  pub arm : Arm
  pub takes : state_of (slice_get machines q) s ≡ Some (Takes p (arm ∷ []))
  pub goes : arm.next ≡ next
