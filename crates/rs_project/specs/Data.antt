-- Headline: what is seen of a projection.
use Rattle.std.specs.Prelude.{ℕ, Bool, List}
use Rattle.rs_model.specs.Data.{Machine_data}

-- the machine, and for each of its states the talks for which the state stands, by their numbers: no talk for the end
pub record Projection_data : Type 0 where
  pub machine : Machine_data
  pub sets : List (List ℕ)

-- what a role may meet first at some place: talks, by their numbers, and maybe the end
pub record Front_data : Type 0 where
  pub talks : List ℕ
  pub ends : Bool
