-- Public: within how many moves a spot dies, the walk along which it does, and walks to a spot that meets a cut.
use Rattle.std.specs.Prelude.{◌≡◌, ◌⊎◌, ℕ, zero, suc, ◌<◌, ◌≤◌, List, [], ◌∷◌, length, slice_get, Option, Some}
use Rattle.rs_model.specs.Data.{Machine_data}
use Rattle.rs_derive.specs.Moves.{Spot, HasMove}
use Rattle.rs_graph.specs.Lists.{Among}
use Rattle.rs_search.specs.Candidates.{MeetsACut, MoveWithin}
use Rattle.rs_search.specs.Survives.{Survives}
use Rattle.rs_search.specs.Turns.{nexts_within}

-- a step of a walk: the place of an arm, and the spot behind it
pub record WalkStep_data : Type 0 where
  pub place : ℕ
  pub spot : Spot

-- the spot at that place among all to which the moves of p lead: by the machine's arm there where both send, by the projection's
-- where the machine passes one, and by place 0 where it makes what it owes
abbrev pub LeadsBy : Machine_data → Machine_data → ℕ → Spot → ℕ → Spot → Type 0
LeadsBy sub above bound p place r = slice_get (nexts_within sub above bound p) place ≡ Some r

-- each step leads by its place to its spot
abbrev pub IsWalk : Machine_data → Machine_data → ℕ → Spot → List WalkStep_data → Type 0
IsWalk sub above bound p [] = Unit {0}
IsWalk sub above bound p (s ∷ later) = LeadsBy sub above bound p s.place s.spot × IsWalk sub above bound s.spot later

-- the spot to which a walk from p leads
abbrev pub end_of : Spot → List WalkStep_data → Spot
end_of p [] = p
end_of p (s ∷ later) = end_of s.spot later

-- the spot has no move within the bound
abbrev pub IsDeadEnd : Machine_data → Machine_data → ℕ → Spot → Type 0
IsDeadEnd sub above bound p = (results : List Spot) → MoveWithin sub above bound p results → ⊥

-- the spot dies within 0 moves where it has no move, and within one more than n where each of its moves has a result that dies within n
abbrev pub DiesWithin : Machine_data → Machine_data → ℕ → ℕ → Spot → Type 0
DiesWithin sub above bound zero p = IsDeadEnd sub above bound p
DiesWithin sub above bound (suc n) p = (results : List Spot) → MoveWithin sub above bound p results → (r : Spot) × Among results r × DiesWithin sub above bound n r

-- it dies within so many moves, and not within fewer
pub record DiesAfter (sub above : Machine_data) (bound n : ℕ) (p : Spot) : Type 0 where
  pub within : DiesWithin sub above bound n p
  pub least : (m : ℕ) → DiesWithin sub above bound m p → n ≤ m

-- a step from a spot that dies after one move more to the first that dies after so many: of the results of one move to one that dies
-- soonest, and of guesses, each of which is a move of its own, to one that dies latest
pub record IsDyingStep (sub above : Machine_data) (bound left : ℕ) (p : Spot) (s : WalkStep_data) : Type 0 where
  pub from : DiesAfter sub above bound (suc left) p
  pub leads : LeadsBy sub above bound p s.place s.spot
  pub to : DiesAfter sub above bound left s.spot
  pub first : (place : ℕ) (q : Spot) → LeadsBy sub above bound p place q → DiesAfter sub above bound left q → s.place ≤ place

-- such steps, until a spot that has no move
abbrev pub IsDyingWalk : Machine_data → Machine_data → ℕ → Spot → List WalkStep_data → Type 0
IsDyingWalk sub above bound p [] = IsDeadEnd sub above bound p
IsDyingWalk sub above bound p (s ∷ later) = IsDyingStep sub above bound (length later) p s × IsDyingWalk sub above bound s.spot later

-- the spot doesn't survive
abbrev pub Dies : Machine_data → Machine_data → ℕ → Spot → Type 0
Dies sub above bound p = Survives sub above bound p → ⊥

-- a greater bound helps the spot: it doesn't survive within the bound, and does within the greater one
pub record IsHelped (sub above : Machine_data) (bound greater : ℕ) (p : Spot) : Type 0 where
  pub dies : Dies sub above bound p
  pub survives : Survives sub above greater p

-- the greater bound helps each spot of the walk
abbrev pub AreHelped : Machine_data → Machine_data → ℕ → ℕ → Spot → List WalkStep_data → Type 0
AreHelped sub above bound greater p [] = IsHelped sub above bound greater p
AreHelped sub above bound greater p (s ∷ later) = IsHelped sub above bound greater p × AreHelped sub above bound greater s.spot later

-- a walk from p through spots that the greater bound helps to one that meets a cut
pub record IsCutWalk (sub above : Machine_data) (bound greater : ℕ) (p : Spot) (steps : List WalkStep_data) : Type 0 where
  pub walk : IsWalk sub above bound p steps
  pub helped : AreHelped sub above bound greater p steps
  pub ends : MeetsACut sub above bound (end_of p steps)

-- where the walks first differ, the first goes by a lesser place
abbrev pub IsNoLater : List WalkStep_data → List WalkStep_data → Type 0
IsNoLater [] others = Unit {0}
IsNoLater (s ∷ later) [] = ⊥
IsNoLater (s ∷ later) (o ∷ others) = (s.place < o.place) ⊎ ((s.place ≡ o.place) × IsNoLater later others)

-- of these walks one as short as there is, and of least places among those as short
pub record IsFirst (Walks : List WalkStep_data → Type 0) (steps : List WalkStep_data) : Type 0 where
  pub is : Walks steps
  pub shortest : (others : List WalkStep_data) → Walks others → length steps ≤ length others
  pub least : (others : List WalkStep_data) → Walks others → length others ≡ length steps → IsNoLater steps others

-- the first of the walks from p through spots that the greater bound helps to one that meets a cut
abbrev pub IsFirstCutWalk : Machine_data → Machine_data → ℕ → ℕ → Spot → List WalkStep_data → Type 0
IsFirstCutWalk sub above bound greater p steps = IsFirst (IsCutWalk sub above bound greater p) steps

-- whichever move a spot of the walk makes, of whatever bound, it leads to the next spot, too
abbrev pub IsForced : Machine_data → Machine_data → Spot → List WalkStep_data → Type 0
IsForced sub above p [] = Unit {0}
IsForced sub above p (s ∷ later) =
    ((makes : Option ℕ) (results : List Spot) → HasMove sub above p makes results → Among results s.spot) × IsForced sub above s.spot later
