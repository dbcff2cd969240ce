-- Public: the survivors: the largest set of candidates in which each has a move whose results all lie in the set.
use Rattle.std.specs.Prelude.{◌≡◌, ℕ, ◌<◌, List, [], ◌∷◌, slice_get, Some}
use Rattle.rs_model.specs.Data.{Machine_data}
use Rattle.rs_model.specs.declared.graph.Arm.{Arm}
use Rattle.rs_model.specs.declared.graph.Role.{Role}
use Rattle.rs_model.specs.declared.machines.State.TheVariants.{Puts}
use Rattle.rs_derive.specs.Moves.{Spot, owing_send}
use Rattle.rs_search.specs.Candidates.{IsCandidate, MoveWithin}
use Rattle.rs_graph.specs.Lists.{Among}

-- the spot has a move whose results all stand in the list
pub record IsSupported (sub above : Machine_data) (bound : ℕ) (set : List Spot) (p : Spot) : Type 0 where
  pub results : List Spot
  pub move : MoveWithin sub above bound p results
  pub all : (r : Spot) → Among results r → Among set r

-- candidates of which each is supported; a set is a list here, since there are finitely many
pub record StandTogether (sub above : Machine_data) (bound : ℕ) (set : List Spot) : Type 0 where
  pub candidates : (p : Spot) → Among set p → IsCandidate sub above bound p
  pub each : (p : Spot) → Among set p → IsSupported sub above bound set p

-- some such set has the spot; the union of all is the largest
pub record Survives (sub above : Machine_data) (bound : ℕ) (p : Spot) : Type 0 where
  pub set : List Spot
  pub stand : StandTogether sub above bound set
  pub among : Among set p

-- the results of the move that the canonical derivation makes: all survive, and where it is a guess no result by an earlier arm does
pub record IsChosen (sub above : Machine_data) (bound : ℕ) (p : Spot) (results : List Spot) : Type 0 where
  pub move : MoveWithin sub above bound p results
  pub survive : (r : Spot) → Among results r → Survives sub above bound r
  pub least : (peer : Role) (arms : List Arm) (place earlier : ℕ) (arm other : Arm)
      → slice_get above.states p.above ≡ Some (Puts peer arms) → slice_get arms place ≡ Some arm → results ≡ owing_send p peer arm ∷ []
      → earlier < place → slice_get arms earlier ≡ Some other → Survives sub above bound (owing_send p peer other) → ⊥
