-- Public: the table of moves, row by row: the rule that applies when the machine is at one state and the projection at another.
use Rattle.std.specs.Prelude.{ℕ, ◌<◌, ◌≡◌, List, [], ◌∷◌, length, slice_get, Bool, true, false, ◌==◌, ◌&&◌, nat_lt, if◌then◌else◌, Option, Some, None}
use Rattle.std.specs.List.{list_all}
use Rattle.rs_model.specs.Serving.{serves}
use Rattle.rs_model.specs.declared.graph.Arm.{Arm}
use Rattle.rs_model.specs.declared.graph.Role.{Role}
use Rattle.rs_model.specs.declared.machines.Act.{Act}
use Rattle.rs_model.specs.declared.machines.Act.TheVariants as act
use Rattle.rs_model.specs.declared.machines.State.{State}
use Rattle.rs_model.specs.declared.machines.State.TheVariants.{Done, Puts, Takes}
use Rattle.rs_model.specs.declared.values.Sort.{Sort}
use Rattle.rs_prefix.specs.Search.{earliest}
use Rattle.rs_prefix.specs.declared.earliest.Found.{Found}
use Rattle.rs_prefix.specs.declared.earliest.Found.TheVariants.{At, Blocked, Absent}
use Rattle.rs_prefix.specs.declared.earliest.ActKind.TheVariants.{Send, Receive}
use Rattle.rs_derive.specs.Moves.{arm_of}
use Rattle.rs_derive.specs.declared.rules.Rule.{Rule}
use Rattle.rs_derive.specs.declared.rules.Rule.TheVariants.{Stops, Pays, SendsBoth, Guesses, Follows}

-- there is such an arm of the projection, and the machine's arm serves it
abbrev pub serves_some : Arm → Option Arm → Bool
serves_some a None = false
serves_some a (Some b) = serves a.sort b.sort

-- the projection has each arm of the machine, with a sort that serves
abbrev pub all_serve : List Arm → List Arm → Bool
all_serve theirs arms = list_all (λ a. serves_some a (arm_of theirs a.label)) arms

-- the machine has ended
abbrev pub end_rule : List Act → Option State → Option Rule
end_rule pending (Some Done) = if length pending == 0 then Some Stops else None
end_rule pending _ = None

-- the machine sends, and a send to the peer is owed at the place
abbrev pub pay_send_rule : ℕ → List Arm → Option Act → Option Rule
pay_send_rule place (a ∷ []) (Some (act.Puts r l so)) = if (a.label.0 == l.0) && serves a.sort so then Some (Pays place a) else None
pay_send_rule place _ _ = None

-- the machine receives, and a receive from the peer is owed at the place
abbrev pub served_rule : ℕ → Sort → Option Arm → Option Rule
served_rule place so None = None
served_rule place so (Some a) = if serves so a.sort then Some (Pays place a) else None

-- the rule by which a receive that is owed is paid, by the arm with its label
abbrev pub pay_receive_rule : ℕ → List Arm → Option Act → Option Rule
pay_receive_rule place arms (Some (act.Takes r l so)) = served_rule place so (arm_of arms l)
pay_receive_rule place arms _ = None

-- the machine sends, and no send to the peer is owed
abbrev pub send_past_rule : Role → List Arm → Option State → Option Rule
send_past_rule q arms (Some (Puts r theirs)) = if r.0 == q.0 then (if all_serve theirs arms then Some SendsBoth else None) else Some (Guesses r)
send_past_rule q arms (Some (Takes r theirs)) = Some (Follows r)
send_past_rule q arms _ = None

-- the machine receives, no receive from the peer is owed, and nothing blocks one
abbrev pub receive_past_rule : Option State → Option Rule
receive_past_rule (Some (Takes r theirs)) = Some (Follows r)
receive_past_rule _ = None

-- the machine sends to q, and this is found of a send to q among what is owed
abbrev pub send_rule : List Act → Role → List Arm → Option State → Found → Option Rule
send_rule pending q arms there (At place) = pay_send_rule place arms (slice_get pending place)
send_rule pending q arms there (Blocked place) = None
send_rule pending q arms there Absent = send_past_rule q arms there

-- the machine receives, and this is found of a receive from its peer among what is owed
abbrev pub receive_rule : List Act → List Arm → Option State → Found → Option Rule
receive_rule pending arms there (At place) = pay_receive_rule place arms (slice_get pending place)
receive_rule pending arms there (Blocked place) = None
receive_rule pending arms there Absent = receive_past_rule there

-- the rule for the machine's state and the projection's, where it has such a state
abbrev pub rule_at : List Act → State → Option State → Option Rule
rule_at pending Done there = end_rule pending there
rule_at pending (Puts q arms) there = send_rule pending q arms there (earliest pending Send q)
rule_at pending (Takes q arms) there = receive_rule pending arms there (earliest pending Receive q)

-- the arms of a state
abbrev pub arms_at : State → List Arm
arms_at Done = []
arms_at (Puts q arms) = arms
arms_at (Takes q arms) = arms

-- the arms of a state, if there is a state
abbrev pub arms_of : Option State → List Arm
arms_of None = []
arms_of (Some s) = arms_at s

-- whether the move adds an act to what is owed
abbrev pub pushes : Rule → Bool
pushes (Guesses r) = true
pushes (Follows r) = true
pushes _ = false

-- whether its edges keep the oldest act that is owed
abbrev pub keeps_head : List Act → Rule → Bool
keeps_head pending Stops = false
keeps_head pending (Pays place a) = nat_lt 0 place
keeps_head pending _ = nat_lt 0 (length pending)

-- what holds if a rule applies: an act is owed at its place, and the projection has each arm of the machine
abbrev pub RuleFits : List Act → List Arm → List Arm → Rule → Type 0
RuleFits pending arms theirs (Pays place a) = place < length pending
RuleFits pending arms theirs SendsBoth = all_serve theirs arms ≡ true
RuleFits pending arms theirs _ = Unit {0}
