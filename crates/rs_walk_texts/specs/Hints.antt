-- Public: what else is told where a walk ends: the talks behind the act that stands in the way, and a choice that isn't made yet.
use Rattle.std.specs.Prelude.{ℕ, ◌+◌, List, [], ◌∷◌, ◌++◌, codes, length, nat_lt, Bool, false, ◌&&◌, if◌then◌else◌, is_some, slice_get, Option, Some, None}
use Rattle.rs_derive.specs.Moves.{Spot, arm_of}
use Rattle.rs_explain.specs.declared.explaining.Ending.{Ending}
use Rattle.rs_explain.specs.declared.explaining.Ending.TheVariants.{Blocked, Cut}
use Rattle.rs_explain.specs.Walks.{WalkStep_data}
use Rattle.rs_explain.specs.declared.obstacles.Obstacle.{Obstacle}
use Rattle.rs_explain.specs.declared.obstacles.Obstacle.TheVariants as told
use Rattle.rs_model.specs.FirstFailed.{or_later}
use Rattle.rs_model.specs.declared.graph.Arm.{Arm}
use Rattle.rs_model.specs.declared.graph.Label.{Label}
use Rattle.rs_model.specs.declared.graph.Node.{Node}
use Rattle.rs_model.specs.declared.graph.Node.TheVariants.{Finished, Talk}
use Rattle.rs_model.specs.declared.graph.Role.{Role}
use Rattle.rs_model.specs.declared.machines.Act.{Act}
use Rattle.rs_model.specs.declared.machines.Act.TheVariants as act
use Rattle.rs_walk_texts.specs.Data.{WalkSource_data}
use Rattle.rs_walk_texts.specs.Dues.{act_dues, due_line}
use Rattle.rs_walk_texts.specs.Elsewhere.{goes}
use Rattle.rs_walk_texts.specs.Heads.{placed_talk_text}
use Rattle.rs_walk_texts.specs.Owing.{newest_talk, talks_owed}

-- the act that is owed and stands in the way: the oldest one, where the machine has ended
abbrev pub owed_in_the_way : Spot → Obstacle → Option Act
owed_in_the_way p told.EndWhileOwing = slice_get p.pending 0
owed_in_the_way p (told.ChoiceWhileOwing place) = slice_get p.pending place
owed_in_the_way p (told.SendBeforeSend place) = slice_get p.pending place
owed_in_the_way p (told.OwedSendOfOtherSort place) = slice_get p.pending place
owed_in_the_way p (told.ReceiveBeforeReceive place) = slice_get p.pending place
owed_in_the_way p (told.OwedReceiveOfOtherSort place) = slice_get p.pending place
owed_in_the_way p (told.ReceiveBeforeOwedSend place) = slice_get p.pending place
owed_in_the_way p _ = None

-- the talks that are due at the end p of a walk: each that may stand behind the act in the way; where the machine would owe too much, the
-- talk of the walk behind the newest act that it owes
abbrev pub dues_text : WalkSource_data → Spot → List WalkStep_data → Spot → Ending → List ℕ
dues_text source first steps p (Blocked o) = act_dues source (owed_in_the_way p o)
dues_text source first steps p Cut = due_line source (newest_talk (talks_owed source first steps))

-- of these arms one has the label, and there is another one
abbrev pub is_one_of_several : List Arm → Label → Bool
is_one_of_several arms label = nat_lt 1 (length arms) && is_some (arm_of arms label)

-- the sender chooses at the node between several messages to the receiver, of which one has the label
abbrev pub chooses : Role → Role → Label → Node → Bool
chooses sender receiver label Finished = false
chooses sender receiver label (Talk s r arms) = goes sender receiver (Talk s r arms) && is_one_of_several arms label

-- the number of the first such node, where the first node has the number n
abbrev pub first_choice : Role → Role → Label → ℕ → List Node → Option ℕ
first_choice sender receiver label n [] = None
first_choice sender receiver label n (node ∷ later) = if chooses sender receiver label node then Some n else first_choice sender receiver label (n + 1) later

-- the talk at which the machine's role chooses the act
abbrev pub choice_of : WalkSource_data → Act → Option ℕ
choice_of source (act.Puts peer label sort) = first_choice source.machine.role peer label 0 source.protocol.nodes
choice_of source (act.Takes peer label sort) = None

-- the first of the acts that are owed that its role chooses, by that talk
abbrev pub owed_choice : WalkSource_data → List Act → Option ℕ
owed_choice source [] = None
owed_choice source (a ∷ later) = or_later (choice_of source a) (owed_choice source later)

-- where the machine sends a message that the protocol doesn't have there: the choice that the machine hasn't made yet
abbrev pub open_choice : WalkSource_data → Spot → Ending → Option ℕ
open_choice source p (Blocked (told.UnknownSend place)) = owed_choice source p.pending
open_choice source p _ = None

-- `not chosen yet: A->B{x(), y()} at L:C`, a line, where there is such a choice
abbrev pub choice_line : WalkSource_data → Option ℕ → List ℕ
choice_line source None = []
choice_line source (Some n) = codes "not chosen yet: " ++ placed_talk_text source.names source.protocol.nodes source.talks n ++ codes "\n"

-- the lines of both, where the walk from that spot ends at p
abbrev pub hints_text : WalkSource_data → Spot → List WalkStep_data → Spot → Ending → List ℕ
hints_text source first steps p ending = dues_text source first steps p ending ++ choice_line source (open_choice source p ending)
