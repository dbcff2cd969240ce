-- Public: how it is told where a walk ends, and why it can't go on.
use Rattle.std.specs.Prelude.{ℕ, List, [], ◌++◌, codes, slice_get, Option, Some, None}
use Rattle.std.specs.Fmt.{decimal}
use Rattle.rs_derive.specs.Moves.{Spot, arm_of}
use Rattle.rs_derive.specs.Rules.{arms_of}
use Rattle.rs_explain.specs.declared.explaining.Ending.{Ending}
use Rattle.rs_explain.specs.declared.explaining.Ending.TheVariants.{Blocked, Cut}
use Rattle.rs_explain.specs.declared.obstacles.Obstacle.{Obstacle}
use Rattle.rs_explain.specs.declared.obstacles.Obstacle.TheVariants as told
use Rattle.rs_model.specs.declared.graph.Arm.{Arm}
use Rattle.rs_model.specs.declared.machines.Act.{Act}
use Rattle.rs_model.specs.declared.machines.State.{State}
use Rattle.rs_model.specs.declared.machines.State.TheVariants.{Takes}
use Rattle.rs_walk_texts.specs.Alike.{label_of, nearest, nearest_text}
use Rattle.rs_walk_texts.specs.Data.{WalkSource_data}
use Rattle.rs_walk_texts.specs.Heads.{act_sort_name, acts_text, arm_sort_name, maybe_act_text, maybe_bare_text, maybe_head_text, owed_line, placed_head_text}
use Rattle.rs_walk_texts.specs.Elsewhere.{elsewhere_at, elsewhere_text}
use Rattle.rs_walk_texts.specs.Passed.{own_name, talks_of, talks_text}
use Rattle.rs_walk_texts.specs.Walks.{above_at, act_of, state_at}
use Rattle.rs_walk_texts.specs.declared.passed.TalkArm.{TalkArm}

-- the head of the machine's state
abbrev pub own_head : WalkSource_data → Spot → List ℕ
own_head source p = maybe_head_text source.names (state_at source p)

-- the head of the projection's state
abbrev pub above_head : WalkSource_data → Spot → List ℕ
above_head source p = maybe_head_text source.names (above_at source p)

-- the act that is owed at the place
abbrev pub owed_act : WalkSource_data → Spot → ℕ → List ℕ
owed_act source p place = maybe_act_text source.names (slice_get p.pending place)

-- the machine's act by its arm at the place
abbrev pub own_act : WalkSource_data → Spot → ℕ → List ℕ
own_act source p place = maybe_act_text source.names (act_of (state_at source p) (slice_get (arms_of (state_at source p)) place))

-- how the act is owed that is beside a choice: already, where it is one of these arms itself, else first
abbrev pub owed_by : Option Arm → List ℕ
owed_by None = codes " first"
owed_by (Some a) = codes " already"

-- the same, where there is such an act
abbrev pub owed_how : List Arm → Option Act → List ℕ
owed_how arms None = []
owed_how arms (Some a) = owed_by (arm_of arms (label_of a))

-- the machine's arm at the place, as an act
abbrev pub own_deed : WalkSource_data → Spot → ℕ → Option Act
own_deed source p place = act_of (state_at source p) (slice_get (arms_of (state_at source p)) place)

-- the sort that the arm with the act's label has, where there are both
abbrev pub sort_beside : List Arm → Option Act → List ℕ
sort_beside arms None = []
sort_beside arms (Some a) = arm_sort_name (arm_of arms (label_of a))

-- that act without its sort
abbrev pub own_bare : WalkSource_data → Spot → ℕ → List ℕ
own_bare source p place = maybe_bare_text source.names (own_deed source p place)

-- the sort of that act
abbrev pub own_sort : WalkSource_data → Spot → ℕ → List ℕ
own_sort source p place = act_sort_name (own_deed source p place)

-- the act that is owed at the place, without its sort
abbrev pub owed_bare : WalkSource_data → Spot → ℕ → List ℕ
owed_bare source p place = maybe_bare_text source.names (slice_get p.pending place)

-- the sort of the act that is owed at the place
abbrev pub owed_sort : Spot → ℕ → List ℕ
owed_sort p place = act_sort_name (slice_get p.pending place)

-- the sort that the projection has for the machine's act
abbrev pub sort_above : WalkSource_data → Spot → ℕ → List ℕ
sort_above source p place = sort_beside (arms_of (above_at source p)) (own_deed source p place)

-- the sort that the machine has for the act that is owed
abbrev pub sort_here : WalkSource_data → Spot → ℕ → List ℕ
sort_here source p place = sort_beside (arms_of (state_at source p)) (slice_get p.pending place)

-- how the act is owed that is beside the machine's choice
abbrev pub owed_here : WalkSource_data → Spot → ℕ → List ℕ
owed_here source p place = owed_how (arms_of (state_at source p)) (slice_get p.pending place)

-- what the machine sends by its arm at the place, and with which sort
abbrev pub sends_with : WalkSource_data → Spot → ℕ → List ℕ
sends_with source p place = codes "the machine sends " ++ own_bare source p place ++ codes " with " ++ own_sort source p place

-- the machine sends, and owes the act at the place
abbrev pub send_while_owing : WalkSource_data → Spot → ℕ → List ℕ
send_while_owing source p place = codes "the machine sends " ++ own_act source p 0 ++ codes ", and owes " ++ owed_act source p place

-- the machine sends the act at the place with another sort than it owes
abbrev pub owed_sort_text : WalkSource_data → Spot → ℕ → List ℕ
owed_sort_text source p place = sends_with source p 0 ++ codes ", and owes it with " ++ owed_sort p place

-- the machine sends by an arm that the protocol doesn't have
abbrev pub unknown_text : WalkSource_data → Spot → ℕ → List ℕ
unknown_text source p place = codes "the machine sends " ++ own_act source p place ++ codes ", where the protocol has " ++ above_head source p

-- the machine sends by an arm that the protocol has with another sort
abbrev pub sent_sort_text : WalkSource_data → Spot → ℕ → List ℕ
sent_sort_text source p place = sends_with source p place ++ codes ", where the protocol has it with " ++ sort_above source p place

-- a receive is owed that the machine doesn't take
abbrev pub untaken_text : WalkSource_data → Spot → ℕ → List ℕ
untaken_text source p place = owed_act source p place ++ codes " comes next, and the machine takes " ++ own_head source p

-- the machine takes the receive that is owed with another sort
abbrev pub taken_sort_text : WalkSource_data → Spot → ℕ → List ℕ
taken_sort_text source p place =
    owed_bare source p place ++ codes " comes with " ++ owed_sort p place ++ codes ", and the machine takes it with " ++ sort_here source p place

-- the machine waits
abbrev pub waits_text : WalkSource_data → Spot → List ℕ
waits_text source p = codes "the machine waits for " ++ own_head source p

-- what leads to the head of a state: it waits for what it takes, or sends
abbrev pub doing_text : Option State → List ℕ
doing_text (Some (Takes peer arms)) = codes "the machine waits for "
doing_text _ = codes "the machine sends "

-- the protocol has nothing more for the role, and the machine goes on
abbrev pub past_end_text : WalkSource_data → Spot → List ℕ
past_end_text source p =
    doing_text (state_at source p) ++ own_head source p ++ codes ", and the protocol has nothing more for " ++ own_name source

-- the machine chooses, and owes the act at the place
abbrev pub choice_text : WalkSource_data → Spot → ℕ → List ℕ
choice_text source p place =
    codes "the machine chooses " ++ own_head source p ++ codes ", and owes " ++ owed_act source p place ++ owed_here source p place

-- the machine waits, and its role sends first by the protocol
abbrev pub send_first_text : WalkSource_data → Spot → List ℕ
send_first_text source p = waits_text source p ++ codes ", and by the protocol " ++ own_name source ++ codes " first sends " ++ above_head source p

-- what stands in the machine's way
abbrev pub obstacle_text : WalkSource_data → Spot → Obstacle → List ℕ
obstacle_text source p told.EndWhileOwing = codes "the machine ends, and still owes " ++ acts_text source.names p.pending
obstacle_text source p told.EndTooEarly = codes "the machine ends, and the protocol goes on with " ++ above_head source p
obstacle_text source p told.ActPastEnd = past_end_text source p
obstacle_text source p (told.ChoiceWhileOwing place) = choice_text source p place
obstacle_text source p (told.SendBeforeSend place) = send_while_owing source p place ++ codes " first"
obstacle_text source p (told.OwedSendOfOtherSort place) = owed_sort_text source p place
obstacle_text source p (told.UnknownSend place) = unknown_text source p place
obstacle_text source p (told.SendOfOtherSort place) = sent_sort_text source p place
obstacle_text source p (told.ReceiveBeforeReceive place) = untaken_text source p place
obstacle_text source p (told.OwedReceiveOfOtherSort place) = taken_sort_text source p place
obstacle_text source p (told.ReceiveBeforeOwedSend place) = waits_text source p ++ codes ", and owes " ++ owed_act source p place ++ codes " first"
obstacle_text source p told.ReceiveBeforeSend = send_first_text source p

-- its move would make it owe too much
abbrev pub cut_text : ℕ → List ℕ
cut_text bound = codes "the machine would put off more acts than --bound " ++ decimal bound ++ codes " allows"

-- why a walk ends, where so many acts may be owed
abbrev pub ending_text : WalkSource_data → Spot → ℕ → Ending → List ℕ
ending_text source p bound (Blocked o) = obstacle_text source p o
ending_text source p bound Cut = cut_text bound

-- the same, where the protocol has the machine's message between other roles alone: then that is told
abbrev pub reason_text : WalkSource_data → Spot → ℕ → Ending → Option TalkArm → List ℕ
reason_text source p bound ending None = ending_text source p bound ending
reason_text source p bound ending (Some t) = elsewhere_text source p t

-- `machine: HEAD at L:C`, a line
abbrev pub machine_line : WalkSource_data → Spot → List ℕ
machine_line source p = codes "machine: " ++ placed_head_text source.names source.machine.states source.states p.state ++ codes "\n"

-- `protocol: TALK at L:C, TALK at L:C`, a line: the talks for which the projection's state stands
abbrev pub protocol_line : WalkSource_data → Spot → List ℕ
protocol_line source p = codes "protocol: " ++ talks_text source (talks_of source p.above) ++ codes "\n"

-- `why: REASON`, a line
abbrev pub why_line : WalkSource_data → Spot → Ending → ℕ → List ℕ
why_line source p ending bound = codes "why: " ++ reason_text source p bound ending (elsewhere_at source p) ++ codes "\n"

-- the lines behind a walk that ends at the spot: what is owed, where both stand, why it ends, and two labels that look alike
abbrev pub stop_text : WalkSource_data → Spot → Ending → ℕ → List ℕ
stop_text source p ending bound =
    owed_line source.names p.pending ++ machine_line source p ++ protocol_line source p ++ why_line source p ending bound
    ++ nearest_text source.names (nearest source p ending)
