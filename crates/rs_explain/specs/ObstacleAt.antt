-- Steps: what stands in the way at a spot, as it is computed, row by row of the table of moves.
use Rattle.std.specs.Prelude.{ℕ, ◌+◌, List, [], ◌∷◌, length, slice_get, ◌==◌, if◌then◌else◌, Option, Some, None}
use Rattle.rs_model.specs.FirstFailed.{or_later}
use Rattle.rs_model.specs.Serving.{serves}
use Rattle.rs_model.specs.declared.graph.Arm.{Arm}
use Rattle.rs_model.specs.declared.graph.Role.{Role}
use Rattle.rs_model.specs.declared.machines.Act.{Act}
use Rattle.rs_model.specs.declared.machines.Act.TheVariants as act
use Rattle.rs_model.specs.declared.machines.State.{State}
use Rattle.rs_model.specs.declared.machines.State.TheVariants.{Done, Puts, Takes}
use Rattle.rs_model.specs.declared.values.Sort.{Sort}
use Rattle.rs_prefix.specs.Search.{earliest}
use Rattle.rs_prefix.specs.declared.earliest.Found.{Found}
use Rattle.rs_prefix.specs.declared.earliest.Found.TheVariants.{At, Blocked, Absent}
use Rattle.rs_prefix.specs.declared.earliest.ActKind.TheVariants.{Send, Receive}
use Rattle.rs_derive.specs.Moves.{arm_of}
use Rattle.rs_explain.specs.declared.obstacles.Obstacle.{Obstacle}
use Rattle.rs_explain.specs.declared.obstacles.Obstacle.TheVariants as told

-- the machine has ended, and owes nothing
abbrev pub early_end : Option State → Option Obstacle
early_end (Some Done) = None
early_end _ = Some told.EndTooEarly

-- the machine has ended
abbrev pub end_obstacle : List Act → Option State → Option Obstacle
end_obstacle pending there = if length pending == 0 then early_end there else Some told.EndWhileOwing

-- the machine sends, and a send to the peer is owed at the place
abbrev pub pay_send_obstacle : ℕ → List Arm → Option Act → Option Obstacle
pay_send_obstacle place (a ∷ []) (Some (act.Puts r l so)) =
    if a.label.0 == l.0 then (if serves a.sort so then None else Some (told.OwedSendOfOtherSort place)) else Some (told.SendBeforeSend place)
pay_send_obstacle place _ _ = Some (told.ChoiceWhileOwing place)

-- the machine receives, and has this arm for the receive that is owed at the place
abbrev pub served_obstacle : ℕ → Sort → Option Arm → Option Obstacle
served_obstacle place so None = Some (told.ReceiveBeforeReceive place)
served_obstacle place so (Some a) = if serves so a.sort then None else Some (told.OwedReceiveOfOtherSort place)

-- the machine receives, and a receive from the peer is owed at the place
abbrev pub pay_receive_obstacle : ℕ → List Arm → Option Act → Option Obstacle
pay_receive_obstacle place arms (Some (act.Takes r l so)) = served_obstacle place so (arm_of arms l)
pay_receive_obstacle place arms _ = Some (told.ReceiveBeforeReceive place)

-- the arm at the place sends, and this is the projection's arm with its label
abbrev pub arm_obstacle : ℕ → Arm → Option Arm → Option Obstacle
arm_obstacle place a None = Some (told.UnknownSend place)
arm_obstacle place a (Some b) = if serves a.sort b.sort then None else Some (told.SendOfOtherSort place)

-- the first of the arms from the place on that doesn't fit
abbrev pub arms_obstacle : List Arm → List Arm → ℕ → Option Obstacle
arms_obstacle theirs [] place = None
arms_obstacle theirs (a ∷ later) place = or_later (arm_obstacle place a (arm_of theirs a.label)) (arms_obstacle theirs later (place + 1))

-- the machine sends, and no send to the peer is owed
abbrev pub send_past_obstacle : Role → List Arm → Option State → Option Obstacle
send_past_obstacle q arms (Some (Puts r theirs)) = if r.0 == q.0 then arms_obstacle theirs arms 0 else None
send_past_obstacle q arms (Some (Takes r theirs)) = None
send_past_obstacle q arms _ = Some told.ActPastEnd

-- the machine receives, no receive from the peer is owed, and nothing blocks one
abbrev pub receive_past_obstacle : Option State → Option Obstacle
receive_past_obstacle (Some (Takes r theirs)) = None
receive_past_obstacle (Some (Puts r theirs)) = Some told.ReceiveBeforeSend
receive_past_obstacle _ = Some told.ActPastEnd

-- the machine sends to q, and this is found of a send to q among what is owed
abbrev pub send_obstacle : List Act → Role → List Arm → Option State → Found → Option Obstacle
send_obstacle pending q arms there (At place) = pay_send_obstacle place arms (slice_get pending place)
send_obstacle pending q arms there (Blocked place) = Some (told.ChoiceWhileOwing place)
send_obstacle pending q arms there Absent = send_past_obstacle q arms there

-- the machine receives, and this is found of a receive from its peer among what is owed
abbrev pub receive_obstacle : List Act → List Arm → Option State → Found → Option Obstacle
receive_obstacle pending arms there (At place) = pay_receive_obstacle place arms (slice_get pending place)
receive_obstacle pending arms there (Blocked place) = Some (told.ReceiveBeforeOwedSend place)
receive_obstacle pending arms there Absent = receive_past_obstacle there

-- the obstacle for the machine's state and the projection's, where it has such a state
abbrev pub obstacle_at : List Act → State → Option State → Option Obstacle
obstacle_at pending Done there = end_obstacle pending there
obstacle_at pending (Puts q arms) there = send_obstacle pending q arms there (earliest pending Send q)
obstacle_at pending (Takes q arms) there = receive_obstacle pending arms there (earliest pending Receive q)
