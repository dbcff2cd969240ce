-- Public: what it means that two projections differ in no more than the numbers of their states.
use Rattle.std.specs.Prelude.{◌≡◌, ℕ, List, map, Some, slice_get}
use Rattle.rs_model.specs.declared.graph.Arm.{Arm}
use Rattle.rs_model.specs.declared.graph.Role.{Role}
use Rattle.rs_model.specs.declared.machines.State.TheVariants.{Done, Puts, Takes}
use Rattle.rs_project.specs.Data.{Projection_data}
use Rattle.rs_project.specs.Projection.{choice_of}

-- state s of the one and state t of the other stand for the same talks
abbrev pub StandAlike : Projection_data → Projection_data → ℕ → ℕ → Type 0
StandAlike one other s t = (members : List ℕ) × (slice_get one.sets s ≡ Some members) × (slice_get other.sets t ≡ Some members)

-- the arms say the same, in the same order, and lead to states that stand for the same talks
pub record LeadAlike (one other : Projection_data) (arms theirs : List Arm) : Type 0 where
  pub choices : map choice_of arms ≡ map choice_of theirs
  pub nexts : (place : ℕ) (x y : Arm) → slice_get arms place ≡ Some x → slice_get theirs place ≡ Some y
      → StandAlike one other x.next y.next

-- both states are Done, or send to one peer, or receive from one peer, with arms that lead alike
pub data ActAlike (one other : Projection_data) (s t : ℕ) : Type 0 where
  BothDone : slice_get one.machine.states s ≡ Some Done → slice_get other.machine.states t ≡ Some Done → ActAlike one other s t
  BothPut : (peer : Role) (arms theirs : List Arm) → slice_get one.machine.states s ≡ Some (Puts peer arms)
      → slice_get other.machine.states t ≡ Some (Puts peer theirs) → LeadAlike one other arms theirs → ActAlike one other s t
  BothTake : (peer : Role) (arms theirs : List Arm) → slice_get one.machine.states s ≡ Some (Takes peer arms)
      → slice_get other.machine.states t ≡ Some (Takes peer theirs) → LeadAlike one other arms theirs → ActAlike one other s t

-- their first states stand for the same talks, and two states that stand for the same talks have the same acts
pub record AreAlike (one other : Projection_data) : Type 0 where
  pub starts : StandAlike one other one.machine.start other.machine.start
  pub acts : (s t : ℕ) → StandAlike one other s t → ActAlike one other s t
