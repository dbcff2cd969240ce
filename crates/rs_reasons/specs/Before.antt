-- Public: what a role has had before two members of a front, where the ways to both part nowhere.
use Rattle.std.specs.Prelude.{ℕ, ◌+◌, List, [], ◌∷◌, ◌++◌, codes, Bool, false, ◌&&◌, ◌||◌, ◌==◌, if◌then◌else◌, slice_get, slice_index_or, Option, Some, None}
use Rattle.std.specs.List.{flat_map, list_any}
use Rattle.rs_model.specs.Data.{Names_data, Protocol_data}
use Rattle.rs_model.specs.declared.graph.Arm.{Arm}
use Rattle.rs_model.specs.declared.graph.Label.{Label}
use Rattle.rs_model.specs.declared.graph.Node.{Node}
use Rattle.rs_model.specs.declared.graph.Node.TheVariants.{Finished, Talk}
use Rattle.rs_model.specs.declared.graph.Role.{Role}
use Rattle.rs_places.specs.declared.places.Position.{Position}
use Rattle.rs_text.specs.NamePlaces.{name_at}
use Rattle.rs_walk_texts.specs.Heads.{at_text, placed_talk_text, talk_by_text}

-- two members of a front that the role can't tell apart, talk a and member b, and of each node whether the role may meet the
-- one first from there, and whether it may meet the other
pub record Clash_data : Type 0 where
  pub names : Names_data
  pub protocol : Protocol_data
  pub talks : List Position
  pub role : Role
  pub a : ℕ
  pub b : Option ℕ
  pub ones : List Bool
  pub others : List Bool

-- the role takes part in the talk
abbrev pub takes_part : Role → Node → Bool
takes_part role Finished = false
takes_part role (Talk s r arms) = (s.0 == role.0) || (r.0 == role.0)

-- the flag of the node with the number
abbrev pub flag_at : List Bool → ℕ → Bool
flag_at flags n = slice_index_or flags n false

-- the arm has the label and leads to a flagged node
abbrev pub leads : List Bool → Label → Arm → Bool
leads flags label a = (a.label.0 == label.0) && flag_at flags a.next

-- some arm has the label and leads to a flagged node
abbrev pub arms_lead : List Bool → Label → List Arm → Bool
arms_lead flags label arms = list_any (leads flags label) arms

-- the node is a talk of the role, and such an arm leads on
abbrev pub talk_leads : Role → List Bool → Label → Node → Bool
talk_leads role flags label Finished = false
talk_leads role flags label (Talk s r arms) = takes_part role (Talk s r arms) && arms_lead flags label arms

-- behind some message of the role with the label the role may be at a flagged node
abbrev pub may_lead : Clash_data → List Bool → Label → Bool
may_lead c flags label = list_any (talk_leads c.role flags label) c.protocol.nodes

-- `A->B:x(sort) at L:C`, or that there is nothing more for the role
abbrev pub member_text : Clash_data → Option ℕ → List ℕ
member_text c (Some node) = placed_talk_text c.names c.protocol.nodes c.talks node
member_text c None = codes "nothing more for " ++ name_at c.names.roles c.role.0

-- `- A->C:x() at L:C`, the talk with that number by the arm
abbrev pub message_item : Clash_data → ℕ → Role → Role → Arm → List ℕ
message_item c n sender receiver a = codes "- " ++ talk_by_text c.names sender receiver a ++ at_text (slice_get c.talks n)

-- `- A->C:x() at L:C, and then MEMBER`, a line
abbrev pub then_line : Clash_data → ℕ → Role → Role → Arm → Option ℕ → List ℕ
then_line c n sender receiver a member = message_item c n sender receiver a ++ codes ", and then " ++ member_text c member ++ codes "\n"

-- that line, where the member may come behind the arm, and the other one behind a message with the same label
abbrev pub line_toward : Clash_data → ℕ → Role → Role → Arm → List Bool → List Bool → Option ℕ → List ℕ
line_toward c n sender receiver a here there member =
    if flag_at here a.next && may_lead c there a.label then then_line c n sender receiver a member else []

-- the lines of an arm
abbrev pub arm_lines : Clash_data → ℕ → Role → Role → Arm → List ℕ
arm_lines c n sender receiver a = line_toward c n sender receiver a c.ones c.others (Some c.a) ++ line_toward c n sender receiver a c.others c.ones c.b

-- the lines of the arms of a talk of the role
abbrev pub talk_lines : Clash_data → ℕ → Node → List ℕ
talk_lines c n Finished = []
talk_lines c n (Talk s r arms) = if takes_part c.role (Talk s r arms) then flat_map (arm_lines c n s r) arms else []

-- the lines of these nodes, of which the first has the number n
abbrev pub nodes_lines : Clash_data → ℕ → List Node → List ℕ
nodes_lines c n [] = []
nodes_lines c n (node ∷ later) = talk_lines c n node ++ nodes_lines c (n + 1) later

-- `before both P has the same messages:`, a line
abbrev pub before_head : Clash_data → List ℕ
before_head c = codes "before both " ++ name_at c.names.roles c.role.0 ++ codes " has the same messages:\n"

-- the messages of the role that have one label and lead to both members, a line each
abbrev pub before_lines : Clash_data → List ℕ
before_lines c = before_head c ++ nodes_lines c 0 c.protocol.nodes
