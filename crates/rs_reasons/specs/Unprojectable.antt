-- Public: what is told of a protocol that has no projection onto a role.
use Rattle.std.specs.Prelude.{◌≡◌, ℕ, List, [], ◌++◌, Bool, codes, ◌==◌, if◌then◌else◌, slice_get, Option, Some, None}
use Rattle.rs_model.specs.Data.{Names_data, Protocol_data}
use Rattle.rs_model.specs.declared.graph.Arm.{Arm}
use Rattle.rs_model.specs.declared.graph.Node.{Node}
use Rattle.rs_model.specs.declared.graph.Node.TheVariants.{Talk}
use Rattle.rs_model.specs.declared.graph.Role.{Role}
use Rattle.rs_partings.specs.Meeting.{AreMeeting}
use Rattle.rs_partings.specs.Partings.{IsParting, PartNowhere}
use Rattle.rs_partings.specs.Waiting.{AreWaitingRound}
use Rattle.rs_partings.specs.declared.searching.Parting.{Parting}
use Rattle.rs_places.specs.declared.places.Position.{Position}
use Rattle.rs_project.specs.declared.projecting.ProjFault.{ProjFault}
use Rattle.rs_project.specs.declared.projecting.ProjFault.TheVariants as proj
use Rattle.rs_text.specs.NamePlaces.{name_at}
use Rattle.rs_walk_texts.specs.Heads.{placed_talk_text}
use Rattle.rs_reasons.specs.Before.{Clash_data, before_lines}
use Rattle.rs_reasons.specs.Waits.{waiting_lines}

-- `- A->B:x(sort) at L:C`, a line: a talk by its number
abbrev pub talk_item : Names_data → Protocol_data → List Position → ℕ → List ℕ
talk_item names protocol talks node = codes "- " ++ placed_talk_text names protocol.nodes talks node ++ codes "\n"

-- `- nothing more for P`, a line
abbrev pub nothing_item : Names_data → Role → List ℕ
nothing_item names role = codes "- nothing more for " ++ name_at names.roles role.0 ++ codes "\n"

-- the line of a member of a front: a talk, or the end, from which on there is no talk of the role
abbrev pub member_item : Names_data → Protocol_data → List Position → Role → Option ℕ → List ℕ
member_item names protocol talks role (Some node) = talk_item names protocol talks node
member_item names protocol talks role None = nothing_item names role

-- the role sends in both talks, to these receivers
abbrev pub sends_apart : Names_data → Role → Role → Role → List ℕ
sends_apart names role one other =
    if one.0 == other.0 then name_at names.roles role.0 ++ codes " would send other messages to " ++ name_at names.roles one.0 ++ codes " in the one case than in the other"
    else name_at names.roles role.0 ++ codes " would send to " ++ name_at names.roles one.0 ++ codes " in the one case and to " ++ name_at names.roles other.0 ++ codes " in the other"

-- a message of the sender has one sort in one of two talks and another one in the other
abbrev pub two_sorts : Names_data → Role → List ℕ
two_sorts names sender = codes "a message that comes from " ++ name_at names.roles sender.0 ++ codes " in both cases has two sorts"

-- the role receives from two senders
abbrev pub two_senders : Names_data → Role → Role → Role → List ℕ
two_senders names role one other =
    name_at names.roles role.0 ++ codes " would wait for " ++ name_at names.roles one.0 ++ codes " in the one case and for " ++ name_at names.roles other.0 ++ codes " in the other"

-- the role receives in both talks, from these senders
abbrev pub waits_apart : Names_data → Role → Role → Role → List ℕ
waits_apart names role one other = if one.0 == other.0 then two_sorts names one else two_senders names role one other

-- the role sends in one of two talks and receives in the other
abbrev pub turns_apart : Names_data → Role → List ℕ
turns_apart names role = name_at names.roles role.0 ++ codes " would send in the one case and wait in the other"

-- why the role, which takes part in both talks, can't do the one as the other
abbrev pub talks_apart : Names_data → Role → Option Node → Option Node → List ℕ
talks_apart names role (Some (Talk s r arms)) (Some (Talk t q theirs)) =
    if s.0 == role.0 then (if t.0 == role.0 then sends_apart names role r q else turns_apart names role)
    else if t.0 == role.0 then turns_apart names role else waits_apart names role s t
talks_apart names role _ _ = []

-- why the role can't do the one member as the other
abbrev pub members_apart : Names_data → Protocol_data → Role → ℕ → Option ℕ → List ℕ
members_apart names protocol role a (Some b) = talks_apart names role (slice_get protocol.nodes a) (slice_get protocol.nodes b)
members_apart names protocol role a None = name_at names.roles role.0 ++ codes " takes part in the one case and has nothing more to do in the other"

-- `why: REASON`, a line
abbrev pub apart_line : Names_data → Protocol_data → Role → ℕ → Option ℕ → List ℕ
apart_line names protocol role a b = codes "why: " ++ members_apart names protocol role a b ++ codes "\n"

-- the two members that the role can't tell apart, a line each, and why not
abbrev pub clash_lines : Names_data → Protocol_data → List Position → Role → ℕ → Option ℕ → List ℕ
clash_lines names protocol talks role a b =
    name_at names.roles role.0 ++ codes " can't tell which comes next:\n" ++ talk_item names protocol talks a ++ member_item names protocol talks role b
    ++ apart_line names protocol role a b

-- the label of the arm at the place, where there is one
abbrev pub arm_label : Names_data → Option Arm → List ℕ
arm_label names None = []
arm_label names (Some a) = name_at names.labels a.label.0

-- the label of the node's arm at the place
abbrev pub label_at : Names_data → Option Node → ℕ → List ℕ
label_at names (Some (Talk sender receiver arms)) place = arm_label names (slice_get arms place)
label_at names _ place = []

-- `they part at A->B{x(), y()} at L:C, by x and y`, a line
abbrev pub parting_line : Names_data → Protocol_data → List Position → Parting → List ℕ
parting_line names protocol talks p =
    codes "they part at " ++ placed_talk_text names protocol.nodes talks p.talk ++ codes ", by " ++ label_at names (slice_get protocol.nodes p.talk) p.one
    ++ codes " and " ++ label_at names (slice_get protocol.nodes p.talk) p.other ++ codes "\n"

-- the first place at which the ways to both part, or that there is none
abbrev pub IsWhereTheyPart : Protocol_data → Role → ℕ → Option ℕ → Option Parting → Type 0
IsWhereTheyPart protocol role a b (Some p) = IsParting protocol role a b p
IsWhereTheyPart protocol role a b None = PartNowhere protocol role a b

-- the line of that place, or the messages that come before both
abbrev pub where_lines : Clash_data → Option Parting → List ℕ
where_lines c (Some p) = parting_line c.names c.protocol c.talks p
where_lines c None = before_lines c

-- both members, and where the ways to them part
abbrev pub clash_text : Clash_data → Option Parting → List ℕ
clash_text c parting = clash_lines c.names c.protocol c.talks c.role c.a c.b ++ where_lines c parting

-- the role can't tell apart a talk, and another one or the end: where the ways to both part, or what comes before both
pub record TellsClash (names : Names_data) (protocol : Protocol_data) (talks : List Position) (role : Role) (a : ℕ) (b : Option ℕ) (lines : List ℕ) : Type 0 where
  pub parting : Option Parting
  pub is_where : IsWhereTheyPart protocol role a b parting
  pub ones : List Bool
  pub to_one : AreMeeting protocol role (Some a) ones
  pub others : List Bool
  pub to_other : AreMeeting protocol role b others
  pub text : lines ≡ clash_text (record { names = names; protocol = protocol; talks = talks; role = role; a = a; b = b; ones = ones; others = others }) parting

-- the talks that can go round while the role is left waiting at a node: a line for each message by which they do, and the cure
pub record TellsWaiting (names : Names_data) (protocol : Protocol_data) (talks : List Position) (role : Role) (node : ℕ) (lines : List ℕ) : Type 0 where
  pub round : List ℕ
  pub is_round : AreWaitingRound protocol role node round
  pub text : lines ≡ waiting_lines names protocol talks role round

-- what is told, by the reason; of too many states nothing more
abbrev pub TellsUnprojectable : Names_data → Protocol_data → List Position → ProjFault → List ℕ → Type 0
TellsUnprojectable names protocol talks (proj.Unmergeable role a b) lines = TellsClash names protocol talks role a b lines
TellsUnprojectable names protocol talks (proj.Unreached role node) lines = TellsWaiting names protocol talks role node lines
TellsUnprojectable names protocol talks (proj.TooManyStates role) lines = lines ≡ []
TellsUnprojectable names protocol talks proj.NoMemory lines = lines ≡ []
