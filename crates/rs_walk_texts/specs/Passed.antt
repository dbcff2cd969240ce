-- Public: the talks that a state of a projection stands for, and what they say of one of its acts.
use Rattle.std.specs.Prelude.{ℕ, Bool, List, [], ◌∷◌, ◌++◌, codes, slice_get, slice_index_or, option_map, Option, Some, None}
use Rattle.rs_derive.specs.Moves.{arm_of}
use Rattle.rs_model.specs.FirstFailed.{or_later}
use Rattle.rs_model.specs.declared.graph.Arm.{Arm}
use Rattle.rs_model.specs.declared.graph.Label.{Label}
use Rattle.rs_model.specs.declared.graph.Node.{Node}
use Rattle.rs_model.specs.declared.graph.Node.TheVariants.{Talk}
use Rattle.rs_model.specs.declared.graph.Role.{Role}
use Rattle.rs_text.specs.NamePlaces.{name_at}
use Rattle.rs_walk_texts.specs.Data.{WalkSource_data}
use Rattle.rs_walk_texts.specs.OneWay.{flagged, meeting}
use Rattle.rs_walk_texts.specs.Heads.{at_text, placed_talk_text, talk_by_text, with_commas}
use Rattle.rs_walk_texts.specs.declared.passed.TalkArm.{TalkArm}

-- the talks for which the state of the projection stands
abbrev pub talks_of : WalkSource_data → ℕ → List ℕ
talks_of source above = slice_index_or source.projection.sets above []

-- a talk by that arm
abbrev pub talk_arm : ℕ → Role → Role → Arm → TalkArm
talk_arm number sender receiver arm = record { number = number; sender = sender; receiver = receiver; arm = arm }

-- the talk that stands at the node with the number, by its arm with the label, where it has one
abbrev pub talk_with : ℕ → Label → Option Node → Option TalkArm
talk_with number label (Some (Talk sender receiver arms)) = option_map (talk_arm number sender receiver) (arm_of arms label)
talk_with number label _ = None

-- the first of these talks that has an arm with the label, by that arm
abbrev pub first_talk : List Node → Label → List ℕ → Option TalkArm
first_talk nodes label [] = None
first_talk nodes label (n ∷ later) = or_later (talk_with n label (slice_get nodes n)) (first_talk nodes label later)

-- `A->B:x(sort) at L:C`, where there is such a talk
abbrev pub talk_arm_text : WalkSource_data → Option TalkArm → List ℕ
talk_arm_text source None = []
talk_arm_text source (Some t) = talk_by_text source.names t.sender t.receiver t.arm ++ at_text (slice_get source.talks t.number)

-- the first of these talks that has an arm with the label, by that arm, and leads by it to a flagged node
abbrev pub first_flagged : List Node → List Bool → Label → List ℕ → Option TalkArm
first_flagged nodes flags label [] = None
first_flagged nodes flags label (n ∷ later) = or_later (flagged flags (talk_with n label (slice_get nodes n))) (first_flagged nodes flags label later)

-- of the talks for which the projection's state stands and that have the label the first behind which the role may meet the next
-- talk first; where there is no next one, or none of them leads to it, the first
abbrev pub passed_talk : WalkSource_data → ℕ → Label → Option TalkArm → Option TalkArm
passed_talk source above label None = first_talk source.protocol.nodes label (talks_of source above)
passed_talk source above label (Some next) =
    or_later (first_flagged source.protocol.nodes (meeting source.protocol.nodes source.machine.role next.number) label (talks_of source above))
    (first_talk source.protocol.nodes label (talks_of source above))

-- the name of the machine's role
abbrev pub own_name : WalkSource_data → List ℕ
own_name source = name_at source.names.roles source.machine.role.0

-- the protocol has no talk of the role from there on
abbrev pub nothing_more : WalkSource_data → List ℕ
nothing_more source = codes "nothing more for " ++ own_name source

-- these talks, each with its position, or that there is none
abbrev pub talks_text : WalkSource_data → List ℕ → List ℕ
talks_text source [] = nothing_more source
talks_text source (n ∷ later) = with_commas (placed_talk_text source.names source.protocol.nodes source.talks) (n ∷ later)
