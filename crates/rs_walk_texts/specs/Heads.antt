-- Public: how positions, acts, the heads of states, and talks are written.
use Rattle.std.specs.Prelude.{ℕ, List, [], ◌∷◌, ◌++◌, codes, slice_get, Option, Some, None}
use Rattle.std.specs.Fmt.{decimal}
use Rattle.std.specs.List.{flat_map}
use Rattle.rs_model.specs.Data.{Names_data}
use Rattle.rs_model.specs.declared.graph.Arm.{Arm}
use Rattle.rs_model.specs.declared.graph.Label.{Label}
use Rattle.rs_model.specs.declared.graph.Node.{Node}
use Rattle.rs_model.specs.declared.graph.Node.TheVariants.{Finished, Talk}
use Rattle.rs_model.specs.declared.graph.Role.{Role}
use Rattle.rs_model.specs.declared.machines.Act.{Act}
use Rattle.rs_model.specs.declared.machines.Act.TheVariants as act
use Rattle.rs_model.specs.declared.machines.State.{State}
use Rattle.rs_model.specs.declared.machines.State.TheVariants.{Done, Puts, Takes}
use Rattle.rs_model.specs.declared.values.Sort.{Sort}
use Rattle.rs_model.specs.declared.values.Sort.TheVariants as sort
use Rattle.rs_places.specs.declared.places.Position.{Position}
use Rattle.rs_text.specs.NamePlaces.{name_at}
use Rattle.rs_text.specs.Shown.{shown_sort, shown_text}

-- ---- lists and positions

-- what is written for x, behind a comma and a space
abbrev pub behind_comma : {A : Type 0} → (A → List ℕ) → A → List ℕ
behind_comma shown x = codes ", " ++ shown x

-- what is written for each of these, with a comma and a space between
abbrev pub with_commas : {A : Type 0} → (A → List ℕ) → List A → List ℕ
with_commas shown [] = []
with_commas shown (x ∷ later) = shown x ++ flat_map (behind_comma shown) later

-- `L:C`
abbrev pub position_text : Position → List ℕ
position_text p = decimal p.line ++ codes ":" ++ decimal p.column

-- ` at L:C`, and nothing where there is no position
abbrev pub at_text : Option Position → List ℕ
at_text None = []
at_text (Some p) = codes " at " ++ position_text p

-- ---- acts

-- `x(sort)`: the unit is written as nothing
abbrev pub message_text : Names_data → Label → Sort → List ℕ
message_text names label sort = name_at names.labels label.0 ++ codes "(" ++ shown_text (shown_sort sort) ++ codes ")"

-- `Q!x(sort)` or `Q?x(sort)`
abbrev pub act_text : Names_data → Act → List ℕ
act_text names (act.Puts peer label sort) = name_at names.roles peer.0 ++ codes "!" ++ message_text names label sort
act_text names (act.Takes peer label sort) = name_at names.roles peer.0 ++ codes "?" ++ message_text names label sort

-- the name of a sort; the unit carries nothing
abbrev pub sort_name : Sort → List ℕ
sort_name sort.Unit = codes "nothing"
sort_name s = shown_text (shown_sort s)

-- `Q!x` or `Q?x`: an act without its sort
abbrev pub bare_text : Names_data → Act → List ℕ
bare_text names (act.Puts peer label sort) = name_at names.roles peer.0 ++ codes "!" ++ name_at names.labels label.0
bare_text names (act.Takes peer label sort) = name_at names.roles peer.0 ++ codes "?" ++ name_at names.labels label.0

-- the same, where there is an act
abbrev pub maybe_bare_text : Names_data → Option Act → List ℕ
maybe_bare_text names None = []
maybe_bare_text names (Some a) = bare_text names a

-- the name of an act's sort, where there is an act
abbrev pub act_sort_name : Option Act → List ℕ
act_sort_name None = []
act_sort_name (Some (act.Puts peer label sort)) = sort_name sort
act_sort_name (Some (act.Takes peer label sort)) = sort_name sort

-- the name of an arm's sort, where there is an arm
abbrev pub arm_sort_name : Option Arm → List ℕ
arm_sort_name None = []
arm_sort_name (Some a) = sort_name a.sort

-- an act, where there is one
abbrev pub maybe_act_text : Names_data → Option Act → List ℕ
maybe_act_text names None = []
maybe_act_text names (Some a) = act_text names a

-- `Q!x(nat), R?y()`
abbrev pub acts_text : Names_data → List Act → List ℕ
acts_text names acts = with_commas (act_text names) acts

-- `owed: Q!x(nat), R?y()` or `owed: nothing`, a line
abbrev pub owed_line : Names_data → List Act → List ℕ
owed_line names [] = codes "owed: nothing\n"
owed_line names (a ∷ later) = codes "owed: " ++ acts_text names (a ∷ later) ++ codes "\n"

-- ---- heads of states

-- the message of an arm
abbrev pub arm_text : Names_data → Arm → List ℕ
arm_text names a = message_text names a.label a.sort

-- a choice: its only arm behind that mark, or its arms in braces
abbrev pub choice_text : Names_data → List ℕ → List Arm → List ℕ
choice_text names mark (a ∷ []) = mark ++ arm_text names a
choice_text names mark arms = codes "{" ++ with_commas (arm_text names) arms ++ codes "}"

-- `Q!x(sort)`, `Q?{x(sort), y()}` or `the end`
abbrev pub head_text : Names_data → State → List ℕ
head_text names Done = codes "the end"
head_text names (Puts peer arms) = name_at names.roles peer.0 ++ codes "!" ++ choice_text names [] arms
head_text names (Takes peer arms) = name_at names.roles peer.0 ++ codes "?" ++ choice_text names [] arms

-- the head, where there is such a state
abbrev pub maybe_head_text : Names_data → Option State → List ℕ
maybe_head_text names None = []
maybe_head_text names (Some s) = head_text names s

-- `HEAD at L:C`, the head of the state with that number
abbrev pub placed_head_text : Names_data → List State → List Position → ℕ → List ℕ
placed_head_text names states positions n = maybe_head_text names (slice_get states n) ++ at_text (slice_get positions n)

-- the act of a state by one of its arms
abbrev pub act_by : State → Arm → Option Act
act_by Done a = None
act_by (Puts peer arms) a = Some (act.Puts peer a.label a.sort)
act_by (Takes peer arms) a = Some (act.Takes peer a.label a.sort)

-- ---- talks

-- `A->B`
abbrev pub way_text : Names_data → Role → Role → List ℕ
way_text names sender receiver = name_at names.roles sender.0 ++ codes "->" ++ name_at names.roles receiver.0

-- `A->B:x(sort)`, the talk by one of its arms
abbrev pub talk_by_text : Names_data → Role → Role → Arm → List ℕ
talk_by_text names sender receiver a = way_text names sender receiver ++ codes ":" ++ arm_text names a

-- `A->B:x(sort)`, `A->B{x(sort), y()}` or `the end`
abbrev pub talk_text : Names_data → Node → List ℕ
talk_text names Finished = codes "the end"
talk_text names (Talk sender receiver arms) = way_text names sender receiver ++ choice_text names (codes ":") arms

-- the talk, where there is such a node
abbrev pub maybe_talk_text : Names_data → Option Node → List ℕ
maybe_talk_text names None = []
maybe_talk_text names (Some n) = talk_text names n

-- `TALK at L:C`, the talk at the node with that number
abbrev pub placed_talk_text : Names_data → List Node → List Position → ℕ → List ℕ
placed_talk_text names nodes positions n = maybe_talk_text names (slice_get nodes n) ++ at_text (slice_get positions n)
