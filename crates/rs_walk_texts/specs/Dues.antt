-- Public: the talks that may stand behind an act that is owed.
use Rattle.std.specs.Prelude.{ℕ, ◌+◌, List, [], ◌∷◌, ◌++◌, codes, if◌then◌else◌, Option, Some, None}
use Rattle.rs_model.specs.declared.graph.Label.{Label}
use Rattle.rs_model.specs.declared.graph.Node.{Node}
use Rattle.rs_model.specs.declared.graph.Role.{Role}
use Rattle.rs_model.specs.declared.machines.Act.{Act}
use Rattle.rs_model.specs.declared.machines.Act.TheVariants as act
use Rattle.rs_walk_texts.specs.Data.{WalkSource_data}
use Rattle.rs_walk_texts.specs.Elsewhere.{goes}
use Rattle.rs_walk_texts.specs.Passed.{talk_arm_text, talk_with}
use Rattle.rs_walk_texts.specs.declared.passed.TalkArm.{TalkArm}

-- the talk with the number by its arm with the label, where it goes from the sender to the receiver and has one
abbrev pub talk_of : Role → Role → Label → ℕ → Node → Option TalkArm
talk_of sender receiver label number node = if goes sender receiver node then talk_with number label (Some node) else None

-- `due: TALK at L:C`, a line, where there is such a talk
abbrev pub due_line : WalkSource_data → Option TalkArm → List ℕ
due_line source None = []
due_line source (Some t) = codes "due: " ++ talk_arm_text source (Some t) ++ codes "\n"

-- the lines of all such talks of these nodes, of which the first has the number n
abbrev pub due_lines : WalkSource_data → Role → Role → Label → ℕ → List Node → List ℕ
due_lines source sender receiver label n [] = []
due_lines source sender receiver label n (node ∷ later) =
    due_line source (talk_of sender receiver label n node) ++ due_lines source sender receiver label (n + 1) later

-- those that may stand behind an act of the machine, where there is one
abbrev pub act_dues : WalkSource_data → Option Act → List ℕ
act_dues source None = []
act_dues source (Some (act.Puts peer label sort)) = due_lines source source.machine.role peer label 0 source.protocol.nodes
act_dues source (Some (act.Takes peer label sort)) = due_lines source peer source.machine.role label 0 source.protocol.nodes
