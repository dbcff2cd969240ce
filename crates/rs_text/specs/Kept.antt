-- Public: names that stay in their places.
use Rattle.std.specs.Prelude.{◌≡◌, ℕ, List, ◌++◌}
use Rattle.rs_model.specs.Data.{Names_data}

-- the names that were there stay in their places
pub record Keeps (old new : Names_data) : Type 0 where
  pub later : List (List ℕ)
  pub roles : new.roles ≡ old.roles
  pub labels : new.labels ≡ old.labels ++ later
