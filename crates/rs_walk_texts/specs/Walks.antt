-- Public: how a walk of a machine beside its projection is told: a line for each step.
use Rattle.std.specs.Prelude.{ℕ, zero, suc, List, [], ◌∷◌, ◌++◌, codes, length, nat_lt, if◌then◌else◌, slice_get, Option, Some, None}
use Rattle.rs_derive.specs.Moves.{Spot}
use Rattle.rs_derive.specs.Rules.{arms_of, rule_at}
use Rattle.rs_derive.specs.declared.rules.Rule.{Rule}
use Rattle.rs_derive.specs.declared.rules.Rule.TheVariants.{Pays, SendsBoth, Guesses, Follows}
use Rattle.rs_explain.specs.Walks.{WalkStep_data}
use Rattle.rs_model.specs.Data.{Names_data}
use Rattle.rs_model.specs.declared.graph.Arm.{Arm}
use Rattle.rs_model.specs.declared.machines.Act.{Act}
use Rattle.rs_model.specs.declared.machines.State.{State}
use Rattle.rs_text.specs.NamePlaces.{name_at}
use Rattle.rs_walk_texts.specs.Data.{WalkSource_data}
use Rattle.rs_walk_texts.specs.Heads.{act_by, at_text, maybe_act_text}
use Rattle.rs_walk_texts.specs.OneWay.{first_some}
use Rattle.rs_walk_texts.specs.Passed.{passed_talk, talk_arm_text}
use Rattle.rs_walk_texts.specs.declared.passed.TalkArm.{TalkArm}

-- ---- what stands at a spot

-- the machine's state
abbrev pub state_at : WalkSource_data → Spot → Option State
state_at source p = slice_get source.machine.states p.state

-- the projection's state
abbrev pub above_at : WalkSource_data → Spot → Option State
above_at source p = slice_get source.projection.machine.states p.above

-- the act of the state by the arm, where there are both
abbrev pub act_of : Option State → Option Arm → Option Act
act_of (Some s) (Some a) = act_by s a
act_of _ _ = None

-- the rule for these states, where there are both
abbrev pub rule_between : List Act → Option State → Option State → Option Rule
rule_between pending (Some s) (Some t) = rule_at pending s (Some t)
rule_between pending _ _ = None

-- the rule that applies at the spot
abbrev pub rule_of : WalkSource_data → Spot → Option Rule
rule_of source p = rule_between p.pending (state_at source p) (above_at source p)

-- ---- a step

-- `Q!x(sort) at L:C`: the machine's act by its arm, with the position of its state
abbrev pub own_text : WalkSource_data → Spot → Option Arm → List ℕ
own_text source p arm = maybe_act_text source.names (act_of (state_at source p) arm) ++ at_text (slice_get source.states p.state)

-- the arm of the projection's act that is passed by the rule, by the arm at the place
abbrev pub passed_arm : WalkSource_data → Spot → ℕ → Option Rule → Option Arm
passed_arm source p place (Some SendsBoth) = slice_get (arms_of (state_at source p)) place
passed_arm source p place (Some (Guesses r)) = slice_get (arms_of (above_at source p)) place
passed_arm source p place (Some (Follows r)) = slice_get (arms_of (above_at source p)) place
passed_arm source p place _ = None

-- the talk of that arm, before the next one
abbrev pub arm_talk : WalkSource_data → Spot → Option TalkArm → Option Arm → Option TalkArm
arm_talk source p next None = None
arm_talk source p next (Some a) = passed_talk source p.above a.label next

-- the talk that a step passes, where the next one that is passed is this
abbrev pub step_talk : WalkSource_data → Spot → WalkStep_data → Option TalkArm → Option TalkArm
step_talk source p s next = arm_talk source p next (passed_arm source p s.place (rule_of source p))

-- of each step of a walk from the spot the talk that it passes, from the last one back: each so that it leads to the one behind it
abbrev pub talks_along : WalkSource_data → Spot → List WalkStep_data → List (Option TalkArm)
talks_along source p [] = []
talks_along source p (s ∷ later) =
    step_talk source p s (first_some (talks_along source s.spot later)) ∷ talks_along source s.spot later

-- the spot before the step with the number, where the walk begins at this one
abbrev pub spot_before : Spot → List WalkStep_data → ℕ → Spot
spot_before p steps zero = p
spot_before p [] (suc n) = p
spot_before p (s ∷ later) (suc n) = spot_before s.spot later n

-- both send: the machine by that arm of its own, the projection by the talk
abbrev pub both_text : WalkSource_data → Spot → Option TalkArm → Option Arm → List ℕ
both_text source p talk None = []
both_text source p talk (Some a) = own_text source p (Some a) ++ codes ", as " ++ talk_arm_text source talk

-- `due: `; of a choice between several arms `due, if P picks x: `, where P sends the talk
abbrev pub due_head : Names_data → ℕ → Option TalkArm → List ℕ
due_head names count None = codes "due: "
due_head names count (Some t) =
    if nat_lt count 2 then codes "due: "
    else codes "due, if " ++ name_at names.roles t.sender.0 ++ codes " picks " ++ name_at names.labels t.arm.label.0 ++ codes ": "

-- the machine passes the talk, and owes its act from there on
abbrev pub due_text : WalkSource_data → Spot → Option TalkArm → List ℕ
due_text source p talk = due_head source.names (length (arms_of (above_at source p))) talk ++ talk_arm_text source talk

-- what is done at the spot by the rule that applies there, by the arm at the place, where the step passes this talk
abbrev pub deed_text : WalkSource_data → Spot → ℕ → Option TalkArm → Option Rule → List ℕ
deed_text source p place talk (Some (Pays at a)) = own_text source p (Some a)
deed_text source p place talk (Some SendsBoth) = both_text source p talk (slice_get (arms_of (state_at source p)) place)
deed_text source p place talk (Some (Guesses r)) = due_text source p talk
deed_text source p place talk (Some (Follows r)) = due_text source p talk
deed_text source p place talk _ = []

-- `- DEED`, a line: what is done at the spot
abbrev pub step_text : WalkSource_data → Spot → WalkStep_data → Option TalkArm → List ℕ
step_text source p s talk = codes "- " ++ deed_text source p s.place talk (rule_of source p) ++ codes "\n"

-- ---- a walk

-- a line for each step of a walk that begins at the spot, where the steps pass these talks
abbrev pub lines_text : WalkSource_data → Spot → List WalkStep_data → List (Option TalkArm) → List ℕ
lines_text source p [] talks = []
lines_text source p (s ∷ later) [] = []
lines_text source p (s ∷ later) (t ∷ talks) = step_text source p s t ++ lines_text source s.spot later talks

-- the same, where the talks lie on one way
abbrev pub steps_text : WalkSource_data → Spot → List WalkStep_data → List ℕ
steps_text source p steps = lines_text source p steps (talks_along source p steps)
