-- Steps: after how many moves each candidate dies, by numbers that are lowered until they hold.
use Rattle.std.specs.Prelude.{◌≡◌, ℕ, suc, ◌<◌, ◌≤◌, Bool, true, false, List, [], ◌∷◌, length, slice_get, slice_index_or, slice_set, nat_le, nat_lt, if◌then◌else◌, Option, Some, None}
use Rattle.std.specs.List.{sum_by}
use Rattle.rs_model.specs.Data.{Machine_data}
use Rattle.rs_derive.specs.Moves.{Spot}
use Rattle.rs_graph.specs.Lists.{Among}
use Rattle.rs_search.specs.Candidates.{start_spot}
use Rattle.rs_explain.specs.Distances.{far_at}
use Rattle.rs_explain.specs.KeptNodes.{least_of}
use Rattle.rs_explain.specs.Walks.{Dies, DiesAfter, DiesWithin, IsDyingWalk, WalkStep_data, end_of}

-- all numbers of spots that don't survive, of which each dies within as many moves as stand before it
pub record AreInOrder (sub above : Machine_data) (bound : ℕ) (spots : List Spot) (order : List ℕ) : Type 0 where
  pub few : length order ≤ length spots
  pub within : (i n : ℕ) → slice_get order i ≡ Some n → n < length spots
  pub dies : (i n : ℕ) (x : Spot) → slice_get order i ≡ Some n → slice_get spots n ≡ Some x → DiesWithin sub above bound i x
  pub all : (n : ℕ) (x : Spot) → slice_get spots n ≡ Some x → Dies sub above bound x → Among order n

-- numbers of moves within which the spots die; the first so many of the order have one
pub record AreBoundsTo (sub above : Machine_data) (bound : ℕ) (spots : List Spot) (order : List ℕ) (count : ℕ) (far : List (Option ℕ)) : Type 0 where
  pub size : length far ≡ length spots
  pub low : (n d : ℕ) → far_at far n ≡ Some d → d < length spots
  pub within : (n d : ℕ) (x : Spot) → slice_get spots n ≡ Some x → far_at far n ≡ Some d → DiesWithin sub above bound d x
  pub known : (i n : ℕ) → i < count → slice_get order i ≡ Some n → (d : ℕ) × (far_at far n ≡ Some d)

-- all of the order have one
abbrev pub AreBounds : Machine_data → Machine_data → ℕ → List Spot → List ℕ → List (Option ℕ) → Type 0
AreBounds sub above bound spots order far = AreBoundsTo sub above bound spots order (length order) far

-- the numbers of moves after which the spots die, of each that doesn't survive
pub record AreDeaths (sub above : Machine_data) (bound : ℕ) (spots : List Spot) (far : List (Option ℕ)) : Type 0 where
  pub size : length far ≡ length spots
  pub each : (n d : ℕ) (x : Spot) → slice_get spots n ≡ Some x → far_at far n ≡ Some d → DiesAfter sub above bound d x
  pub all : (n : ℕ) (x : Spot) → slice_get spots n ≡ Some x → Dies sub above bound x → (d : ℕ) × (far_at far n ≡ Some d)

-- the greater of a number and one more than another, where both are known
abbrev pub later : Option ℕ → Option ℕ → Option ℕ
later None next = None
later (Some d) None = None
later (Some d) (Some e) = if nat_le d e then Some (suc e) else Some d

-- the greatest of a number and one more than those of the row, where all are known
abbrev pub latest_of : List (Option ℕ) → Option ℕ → List ℕ → Option ℕ
latest_of far latest [] = latest
latest_of far latest (r ∷ row) = latest_of far (later latest (far_at far r)) row

-- one more, where it is known
abbrev pub one_more : Option ℕ → Option ℕ
one_more None = None
one_more (Some d) = Some (suc d)

-- the number that those of the row give, where each of these is a move of its own, or else all together are the one move
abbrev pub given : List (Option ℕ) → Bool → List ℕ → Option ℕ
given far true row = latest_of far (Some 0) row
given far false row = one_more (least_of far None row)

-- the number that is given, where it is less than the known one
abbrev pub lesser_given : Option ℕ → Option ℕ → Option ℕ
lesser_given None new = None
lesser_given (Some d) None = None
lesser_given (Some d) (Some e) = if nat_lt e d then Some e else None

-- of the number n: what those of its row give, where it is less
abbrev pub lowers : List Bool → List (List ℕ) → List (Option ℕ) → ℕ → Option ℕ
lowers anys rows far n = lesser_given (far_at far n) (given far (slice_index_or anys n false) (slice_index_or rows n []))

-- the number is lowered so far, where it can be
pub data IsLowered (far : List (Option ℕ)) (n : ℕ) (new : Option ℕ) (far' : List (Option ℕ)) (lowered : Bool) : Type 0 where
  Lowered : (d : ℕ) → new ≡ Some d → far' ≡ slice_set far n (Some d) → lowered ≡ true → IsLowered far n new far' lowered
  Same : new ≡ None → far' ≡ far → lowered ≡ false → IsLowered far n new far' lowered

-- the number, where it is known
abbrev pub counted : Option ℕ → ℕ
counted None = 0
counted (Some d) = d

-- all numbers together
abbrev pub total : List (Option ℕ) → ℕ
total far = sum_by counted far

-- the first so many of the order were visited: some number was lowered, or none can be
pub data IsVisited (anys : List Bool) (rows : List (List ℕ)) (order : List ℕ) (far : List (Option ℕ)) (count : ℕ) (far' : List (Option ℕ)) (lowered : Bool) : Type 0 where
  SomeLowered : lowered ≡ true → total far' < total far → IsVisited anys rows order far count far' lowered
  NoneLowered : lowered ≡ false → far' ≡ far → ((i n : ℕ) → i < count → slice_get order i ≡ Some n → lowers anys rows far n ≡ None) → IsVisited anys rows order far count far' lowered

-- the walk along which the start dies, and the number of the spot at its end
pub record IsDyingWay (sub above : Machine_data) (bound : ℕ) (spots : List Spot) (steps : List WalkStep_data) (node : ℕ) : Type 0 where
  pub walk : IsDyingWalk sub above bound (start_spot sub above) steps
  pub stands : slice_get spots node ≡ Some (end_of (start_spot sub above) steps)
