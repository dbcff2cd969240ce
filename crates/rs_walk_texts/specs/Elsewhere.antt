-- Public: messages of the machine that the protocol has between other roles alone.
use Rattle.std.specs.Prelude.{ℕ, ◌+◌, List, [], ◌∷◌, ◌++◌, codes, Bool, false, ◌==◌, ◌&&◌, if◌then◌else◌, is_some, option_map, Option, Some, None}
use Rattle.rs_derive.specs.Moves.{Spot, arm_of}
use Rattle.rs_model.specs.FirstFailed.{or_later}
use Rattle.rs_model.specs.Data.{Names_data}
use Rattle.rs_model.specs.declared.graph.Arm.{Arm}
use Rattle.rs_model.specs.declared.graph.Node.{Node}
use Rattle.rs_model.specs.declared.graph.Node.TheVariants.{Finished, Talk}
use Rattle.rs_model.specs.declared.graph.Role.{Role}
use Rattle.rs_model.specs.declared.machines.State.{State}
use Rattle.rs_model.specs.declared.machines.State.TheVariants.{Done, Puts, Takes}
use Rattle.rs_walk_texts.specs.Data.{WalkSource_data}
use Rattle.rs_walk_texts.specs.Heads.{choice_text, way_text}
use Rattle.rs_walk_texts.specs.Passed.{talk_arm, talk_arm_text}
use Rattle.rs_walk_texts.specs.Walks.{state_at}
use Rattle.rs_walk_texts.specs.declared.passed.TalkArm.{TalkArm}

-- the node is a talk from the sender to the receiver
abbrev pub goes : Role → Role → Node → Bool
goes sender receiver Finished = false
goes sender receiver (Talk s r arms) = (s.0 == sender.0) && (r.0 == receiver.0)

-- the first of their arms whose label one of ours has
abbrev pub shared_arm : List Arm → List Arm → Option Arm
shared_arm ours [] = None
shared_arm ours (b ∷ theirs) = if is_some (arm_of ours b.label) then Some b else shared_arm ours theirs

-- the talk by the first of its arms whose label one of ours has, where it has one
abbrev pub talk_sharing : List Arm → ℕ → Node → Option TalkArm
talk_sharing ours number Finished = None
talk_sharing ours number (Talk s r theirs) = option_map (talk_arm number s r) (shared_arm ours theirs)

-- the same, where the talk goes from the sender to the receiver
abbrev pub talk_between : Role → Role → List Arm → ℕ → Node → Option TalkArm
talk_between sender receiver ours number node = if goes sender receiver node then talk_sharing ours number node else None

-- the first such talk from the sender to the receiver, where the first node has the number n
abbrev pub first_between : Role → Role → List Arm → ℕ → List Node → Option TalkArm
first_between sender receiver ours n [] = None
first_between sender receiver ours n (node ∷ later) = or_later (talk_between sender receiver ours n node) (first_between sender receiver ours (n + 1) later)

-- the first such talk between whatever roles
abbrev pub first_sharing : List Arm → ℕ → List Node → Option TalkArm
first_sharing ours n [] = None
first_sharing ours n (node ∷ later) = or_later (talk_sharing ours n node) (first_sharing ours (n + 1) later)

-- of messages that no talk sends from the sender to the receiver, the first talk that sends one of them between other roles
abbrev pub elsewhere : List Node → Role → Role → List Arm → Option TalkArm
elsewhere nodes sender receiver ours = if is_some (first_between sender receiver ours 0 nodes) then None else first_sharing ours 0 nodes

-- the same of what a state of the role's machine sends or takes
abbrev pub act_elsewhere : List Node → Role → Option State → Option TalkArm
act_elsewhere nodes role None = None
act_elsewhere nodes role (Some Done) = None
act_elsewhere nodes role (Some (Puts peer arms)) = elsewhere nodes role peer arms
act_elsewhere nodes role (Some (Takes peer arms)) = elsewhere nodes peer role arms

-- the same of the machine's state at the spot
abbrev pub elsewhere_at : WalkSource_data → Spot → Option TalkArm
elsewhere_at source p = act_elsewhere source.protocol.nodes source.machine.role (state_at source p)

-- `A->C:x()` or `A->C{x(), y()}`: what a state of the role's machine sends or takes, as talks have it
abbrev pub as_talk_text : Names_data → Role → Option State → List ℕ
as_talk_text names role None = []
as_talk_text names role (Some Done) = []
as_talk_text names role (Some (Puts peer arms)) = way_text names role peer ++ choice_text names (codes ":") arms
as_talk_text names role (Some (Takes peer arms)) = way_text names peer role ++ choice_text names (codes ":") arms

-- the protocol has no such talk, and has the message in that one
abbrev pub elsewhere_text : WalkSource_data → Spot → TalkArm → List ℕ
elsewhere_text source p t =
    codes "the protocol has no " ++ as_talk_text source.names source.machine.role (state_at source p) ++ codes ", and has " ++ talk_arm_text source (Some t)
