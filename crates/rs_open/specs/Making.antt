-- Public: actors that are made for the roles of a session.
use Rattle.std.specs.Prelude.{◌≡◌, ℕ, List, length, Some, slice_get}
use Rattle.rs_model.specs.declared.graph.Role.{Role}

-- an actor for each of the first n roles, each as it may be made for its role
pub record AreMadeBy {A : Type 0} (Makes : Role → A → Type 0) (roles : ℕ) (actors : List A) : Type 0 where
  pub many : length actors ≡ roles
  pub each : (role : Role) (x : A) → slice_get actors role.0 ≡ Some x → Makes role x
