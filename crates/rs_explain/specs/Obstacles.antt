-- Public: why a spot has no move: what stands in the way of each rule that might apply.
use Rattle.std.specs.Prelude.{◌≡◌, ◌≢◌, ℕ, ◌<◌, List, [], ◌∷◌, length, slice_get, Option, Some, None}
use Rattle.rs_model.specs.Data.{Machine_data}
use Rattle.rs_model.specs.Serving.{Serves}
use Rattle.rs_model.specs.declared.graph.Arm.{Arm}
use Rattle.rs_model.specs.declared.graph.Label.{Label}
use Rattle.rs_model.specs.declared.graph.Role.{Role}
use Rattle.rs_model.specs.declared.machines.Act.TheVariants as act
use Rattle.rs_model.specs.declared.machines.State.TheVariants.{Done, Puts, Takes}
use Rattle.rs_model.specs.declared.values.Sort.{Sort}
use Rattle.rs_prefix.specs.Earliest.{IsFound, IsBlocked, IsAbsent}
use Rattle.rs_prefix.specs.declared.earliest.ActKind.TheVariants.{Send, Receive}
use Rattle.rs_derive.specs.Moves.{Spot, HasMove, arm_of}
use Rattle.rs_explain.specs.declared.obstacles.Obstacle.{Obstacle}
use Rattle.rs_explain.specs.declared.obstacles.Obstacle.TheVariants as told

-- the spot has no move, whatever the bound
abbrev pub HasNoMove : Machine_data → Machine_data → Spot → Type 0
HasNoMove sub above p = (makes : Option ℕ) (results : List Spot) → HasMove sub above p makes results → ⊥

-- each arm before the place is one of the projection's arms, with a sort that serves
abbrev pub AllServeBefore : List Arm → List Arm → ℕ → Type 0
AllServeBefore theirs arms place = (i : ℕ) (a : Arm) → i < place → slice_get arms i ≡ Some a
    → (b : Arm) × (arm_of theirs a.label ≡ Some b) × Serves a.sort b.sort

-- what the obstacle says of the spot
pub data IsObstacle (sub above : Machine_data) (p : Spot) (o : Obstacle) : Type 0 where
  -- the machine has ended, and still owes an act
  EndsOwing : slice_get sub.states p.state ≡ Some Done → p.pending ≢ [] → o ≡ told.EndWhileOwing → IsObstacle sub above p o
  -- the machine has ended and owes nothing, and the projection hasn't ended
  EndsEarly : slice_get sub.states p.state ≡ Some Done → p.pending ≡ [] → slice_get above.states p.above ≢ Some Done
      → o ≡ told.EndTooEarly → IsObstacle sub above p o
  -- a send to the peer is owed, and the machine may choose among several
  Chooses : (q : Role) (arms : List Arm) (place : ℕ) → slice_get sub.states p.state ≡ Some (Puts q arms)
      → IsFound p.pending Send q place → length arms ≢ 1 → o ≡ told.ChoiceWhileOwing place → IsObstacle sub above p o
  -- a send to the peer is owed, and the machine's only arm has another label
  SendsBeforeSend : (q : Role) (arm : Arm) (place : ℕ) (label : Label) (sort : Sort) → slice_get sub.states p.state ≡ Some (Puts q (arm ∷ []))
      → IsFound p.pending Send q place → slice_get p.pending place ≡ Some (act.Puts q label sort) → arm.label ≢ label
      → o ≡ told.SendBeforeSend place → IsObstacle sub above p o
  -- the machine's only arm has the label of the send to the peer that is owed, and a sort that doesn't serve
  SendsOtherSort : (q : Role) (arm : Arm) (place : ℕ) (sort : Sort) → slice_get sub.states p.state ≡ Some (Puts q (arm ∷ []))
      → IsFound p.pending Send q place → slice_get p.pending place ≡ Some (act.Puts q arm.label sort) → (Serves arm.sort sort → ⊥)
      → o ≡ told.OwedSendOfOtherSort place → IsObstacle sub above p o
  -- no send to q is owed and both send to it, but the projection doesn't send the label of this arm, the first that doesn't fit
  SendsUnknown : (q : Role) (arms theirs : List Arm) (place : ℕ) (arm : Arm) → slice_get sub.states p.state ≡ Some (Puts q arms)
      → IsAbsent p.pending Send q → slice_get above.states p.above ≡ Some (Puts q theirs) → AllServeBefore theirs arms place
      → slice_get arms place ≡ Some arm → arm_of theirs arm.label ≡ None → o ≡ told.UnknownSend place → IsObstacle sub above p o
  -- no send to q is owed and both send to it, but the sort of this arm, the first that doesn't fit, doesn't serve
  SendsUnserved : (q : Role) (arms theirs : List Arm) (place : ℕ) (arm their : Arm) → slice_get sub.states p.state ≡ Some (Puts q arms)
      → IsAbsent p.pending Send q → slice_get above.states p.above ≡ Some (Puts q theirs) → AllServeBefore theirs arms place
      → slice_get arms place ≡ Some arm → arm_of theirs arm.label ≡ Some their → (Serves arm.sort their.sort → ⊥)
      → o ≡ told.SendOfOtherSort place → IsObstacle sub above p o
  -- the machine sends what isn't owed, and the projection has ended
  SendsPastEnd : (q : Role) (arms : List Arm) → slice_get sub.states p.state ≡ Some (Puts q arms) → IsAbsent p.pending Send q
      → slice_get above.states p.above ≡ Some Done → o ≡ told.ActPastEnd → IsObstacle sub above p o
  -- the earliest receive from the peer that is owed has a label that the machine doesn't take
  ReceivesBeforeReceive : (q : Role) (arms : List Arm) (place : ℕ) (label : Label) (sort : Sort) → slice_get sub.states p.state ≡ Some (Takes q arms)
      → IsFound p.pending Receive q place → slice_get p.pending place ≡ Some (act.Takes q label sort) → arm_of arms label ≡ None
      → o ≡ told.ReceiveBeforeReceive place → IsObstacle sub above p o
  -- the machine takes its label, but with a sort that it doesn't serve
  ReceivesOtherSort : (q : Role) (arms : List Arm) (place : ℕ) (label : Label) (sort : Sort) (arm : Arm)
      → slice_get sub.states p.state ≡ Some (Takes q arms) → IsFound p.pending Receive q place
      → slice_get p.pending place ≡ Some (act.Takes q label sort) → arm_of arms label ≡ Some arm → (Serves sort arm.sort → ⊥)
      → o ≡ told.OwedReceiveOfOtherSort place → IsObstacle sub above p o
  -- a send is owed that no receive from the peer may overtake
  ReceivesBeforeOwedSend : (q : Role) (arms : List Arm) (place : ℕ) → slice_get sub.states p.state ≡ Some (Takes q arms)
      → IsBlocked p.pending Receive q place → o ≡ told.ReceiveBeforeOwedSend place → IsObstacle sub above p o
  -- the machine receives what isn't owed, and the projection sends first
  ReceivesBeforeSend : (q r : Role) (arms theirs : List Arm) → slice_get sub.states p.state ≡ Some (Takes q arms)
      → IsAbsent p.pending Receive q → slice_get above.states p.above ≡ Some (Puts r theirs) → o ≡ told.ReceiveBeforeSend
      → IsObstacle sub above p o
  -- the machine receives what isn't owed, and the projection has ended
  ReceivesPastEnd : (q : Role) (arms : List Arm) → slice_get sub.states p.state ≡ Some (Takes q arms) → IsAbsent p.pending Receive q
      → slice_get above.states p.above ≡ Some Done → o ≡ told.ActPastEnd → IsObstacle sub above p o
