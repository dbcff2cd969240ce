-- Public: how a machine follows its projection, with what it still owes.
use Rattle.std.specs.Prelude.{◌≡◌, ◌≢◌, ℕ, List, [], ◌∷◌, ◌++◌, map, slice_get, Option, Some, None, ◌==◌, if◌then◌else◌}
use Rattle.rs_model.specs.Data.{Machine_data}
use Rattle.rs_model.specs.Serving.{Serves}
use Rattle.rs_model.specs.declared.graph.Arm.{Arm}
use Rattle.rs_model.specs.declared.graph.Label.{Label}
use Rattle.rs_model.specs.declared.graph.Role.{Role}
use Rattle.rs_model.specs.declared.machines.Act.{Act}
use Rattle.rs_model.specs.declared.machines.Act.TheVariants as act
use Rattle.rs_model.specs.declared.machines.State.TheVariants.{Done, Puts, Takes}
use Rattle.rs_model.specs.declared.values.Sort.{Sort}
use Rattle.rs_prefix.specs.Earliest.{IsFound, IsAbsent, without}
use Rattle.rs_prefix.specs.declared.earliest.ActKind.TheVariants.{Send, Receive}

-- a state of the machine, the acts of the projection that were passed and that the machine still owes, the oldest first, and a state of the projection
pub record Spot : Type 0 where
  pub state : ℕ
  pub pending : List Act
  pub above : ℕ

-- the spot with that state, these acts owed, and that state of the projection
abbrev pub spot : ℕ → List Act → ℕ → Spot
spot s pending t = record { state = s; pending = pending; above = t }

-- the arm with the label; there is one at most, since no state has a label twice
abbrev pub arm_of : List Arm → Label → Option Arm
arm_of [] l = None
arm_of (a ∷ later) l = if a.label.0 == l.0 then Some a else arm_of later l

-- each arm of the machine, in order, is one of the projection's arms, with a sort that serves, and gives one result
abbrev pub Both : List Arm → List Act → List Arm → List Spot → Type 0
Both theirs pending [] [] = Unit {0}
Both theirs pending [] (r ∷ rs) = ⊥
Both theirs pending (a ∷ later) [] = ⊥
Both theirs pending (a ∷ later) (r ∷ rs) =
    ((b : Arm) × (arm_of theirs a.label ≡ Some b) × Serves a.sort b.sort × (r ≡ spot a.next pending b.next))
    × Both theirs pending later rs

-- the result of passing a send of the projection, or a receive, by that arm: the machine stays where it is, and owes the act
abbrev pub owing_send : Spot → Role → Arm → Spot
owing_send p r b = spot p.state (p.pending ++ act.Puts r b.label b.sort ∷ []) b.next

-- where an arm leads by which the projection has received, while the machine owes the receive
abbrev pub owing_receive : Spot → Role → Arm → Spot
owing_receive p r b = spot p.state (p.pending ++ act.Takes r b.label b.sort ∷ []) b.next

-- a move of the spot: the place of the pending act that it makes, where it makes one, and its results
pub data HasMove (sub above : Machine_data) (p : Spot) (makes : Option ℕ) (results : List Spot) : Type 0 where
  -- both have ended, and nothing is owed
  Stops : slice_get sub.states p.state ≡ Some Done → p.pending ≡ [] → slice_get above.states p.above ≡ Some Done
      → makes ≡ None → results ≡ [] → HasMove sub above p makes results
  -- the machine's only arm is the earliest pending send to q
  PaysSend : (q : Role) (arm : Arm) (place : ℕ) (sort : Sort) → slice_get sub.states p.state ≡ Some (Puts q (arm ∷ []))
      → IsFound p.pending Send q place → slice_get p.pending place ≡ Some (act.Puts q arm.label sort) → Serves arm.sort sort
      → makes ≡ Some place → results ≡ spot arm.next (without p.pending place) p.above ∷ [] → HasMove sub above p makes results
  -- no send to q is pending, and both send to q
  SendsBoth : (q : Role) (arms theirs : List Arm) → slice_get sub.states p.state ≡ Some (Puts q arms) → IsAbsent p.pending Send q
      → slice_get above.states p.above ≡ Some (Puts q theirs) → makes ≡ None → Both theirs p.pending arms results
      → HasMove sub above p makes results
  -- the projection sends to another first: one of its arms is guessed
  Guesses : (q r : Role) (arms theirs : List Arm) (place : ℕ) (b : Arm) → slice_get sub.states p.state ≡ Some (Puts q arms)
      → IsAbsent p.pending Send q → slice_get above.states p.above ≡ Some (Puts r theirs) → r ≢ q
      → slice_get theirs place ≡ Some b → makes ≡ None → results ≡ owing_send p r b ∷ [] → HasMove sub above p makes results
  -- the projection receives first: all its arms are followed
  SendsAhead : (q r : Role) (arms theirs : List Arm) → slice_get sub.states p.state ≡ Some (Puts q arms)
      → IsAbsent p.pending Send q → slice_get above.states p.above ≡ Some (Takes r theirs)
      → makes ≡ None → results ≡ map (λ b. owing_receive p r b) theirs → HasMove sub above p makes results
  -- the machine takes the earliest pending receive from q, which nothing blocks
  PaysReceive : (q : Role) (arms : List Arm) (place : ℕ) (label : Label) (sort : Sort) (arm : Arm)
      → slice_get sub.states p.state ≡ Some (Takes q arms) → IsFound p.pending Receive q place
      → slice_get p.pending place ≡ Some (act.Takes q label sort) → arm_of arms label ≡ Some arm → Serves sort arm.sort
      → makes ≡ Some place → results ≡ spot arm.next (without p.pending place) p.above ∷ [] → HasMove sub above p makes results
  -- no receive from q is pending and nothing blocks one: all arms of the projection's receive are followed
  ReceivesAhead : (q r : Role) (arms theirs : List Arm) → slice_get sub.states p.state ≡ Some (Takes q arms)
      → IsAbsent p.pending Receive q → slice_get above.states p.above ≡ Some (Takes r theirs)
      → makes ≡ None → results ≡ map (λ b. owing_receive p r b) theirs → HasMove sub above p makes results
