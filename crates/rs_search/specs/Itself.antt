-- Steps: the spots of a machine that follows itself, and what they lead to, as it is computed.
use Rattle.std.specs.Prelude.{◌≡◌, ℕ, ◌<◌, ◌≤◌, List, [], ◌∷◌, length, map, slice_get, Option, None, Some}
use Rattle.rs_model.specs.Data.{Machine_data}
use Rattle.rs_model.specs.declared.graph.Arm.{Arm}
use Rattle.rs_model.specs.declared.graph.Role.{Role}
use Rattle.rs_model.specs.declared.machines.Act.{Act}
use Rattle.rs_model.specs.declared.limits.TheConstants.{MOST_CANDIDATES}
use Rattle.rs_model.specs.declared.machines.State.{State}
use Rattle.rs_model.specs.declared.machines.State.TheVariants.{Done, Puts, Takes}
use Rattle.rs_derive.specs.Moves.{Spot, owing_receive, spot}
use Rattle.rs_graph.specs.Naming.{AreNamed, Grown}

-- both stand at one state, and nothing is owed
abbrev pub even : ℕ → Spot
even s = spot s [] s

-- what an even spot leads to: both send, or the receive is owed that the one has passed
abbrev pub even_nexts : ℕ → Option State → List Spot
even_nexts s None = []
even_nexts s (Some Done) = []
even_nexts s (Some (Puts q arms)) = map (λ (a : Arm). even a.next) arms
even_nexts s (Some (Takes q arms)) = map (λ (b : Arm). owing_receive (even s) q b) arms

-- what a spot leads to, by what is owed: where an act is, it is made, and both stand at one state again
abbrev pub onward : List Act → ℕ → Option State → ℕ → List Spot
onward [] s state above = even_nexts s state
onward (a ∷ later) s state above = even above ∷ []

-- what a spot of a machine that follows itself leads to
abbrev pub nexts_itself : Machine_data → Spot → List Spot
nexts_itself m p = onward p.pending p.state (slice_get m.states p.state) p.above

-- a spot of a machine that follows itself
pub data IsOfItself (m : Machine_data) (p : Spot) : Type 0 where
  -- both stand at one state
  Even : (s : ℕ) → s < length m.states → p ≡ even s → IsOfItself m p
  -- the projection has received, by one of its arms
  Owes : (s i : ℕ) (q : Role) (arms : List Arm) (b : Arm) → slice_get m.states s ≡ Some (Takes q arms) → slice_get arms i ≡ Some b
      → p ≡ owing_receive (even s) q b → IsOfItself m p

-- the numbers of the even spots, by their states
pub record ArePlaced (found : List Spot) (places : List (Option ℕ)) : Type 0 where
  pub to : (n s : ℕ) → slice_get found n ≡ Some (even s) → slice_get places s ≡ Some (Some n)
  pub from : (s n : ℕ) → slice_get places s ≡ Some (Some n) → slice_get found n ≡ Some (even s)

-- the positions that are found, no more than there may be candidates, with the numbers of the even ones by their states
pub record ArePositions (found : List Spot) (places : List (Option ℕ)) (states : ℕ) : Type 0 where
  pub bounded : length found ≤ MOST_CANDIDATES
  pub placed : ArePlaced found places
  pub size : length places ≡ states

-- the spots to which the one at the place leads were named by these numbers
abbrev pub AreNamedAt : (Spot → List Spot) → List Spot → ℕ → List Spot → List ℕ → Type 0
AreNamedAt spots old k new row = (p : Spot) → slice_get old k ≡ Some p → AreNamed old (spots p) new row

-- those spots were named, as far as it went, and no others were added
abbrev pub GrowsBy : (Spot → List Spot) → List Spot → ℕ → List Spot → Type 0
GrowsBy spots old k new = (p : Spot) → slice_get old k ≡ Some p → Grown old (spots p) new
