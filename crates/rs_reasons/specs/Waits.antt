-- Public: how it is told round which messages talks can go while a role is left waiting.
use Rattle.std.specs.Prelude.{ℕ, List, [], ◌++◌, codes, Bool, ◌==◌, if◌then◌else◌, slice_get, Option, Some}
use Rattle.std.specs.List.{flat_map, list_any}
use Rattle.rs_model.specs.Data.{Names_data, Protocol_data}
use Rattle.rs_model.specs.declared.graph.Arm.{Arm}
use Rattle.rs_model.specs.declared.graph.Node.{Node}
use Rattle.rs_model.specs.declared.graph.Node.TheVariants.{Talk}
use Rattle.rs_model.specs.declared.graph.Role.{Role}
use Rattle.rs_places.specs.declared.places.Position.{Position}
use Rattle.rs_text.specs.NamePlaces.{name_at}
use Rattle.rs_walk_texts.specs.Heads.{at_text, talk_by_text}

-- the node is one of those
abbrev pub is_among : List ℕ → ℕ → Bool
is_among round n = list_any (λ (m : ℕ). m == n) round

-- `- A->B:x(sort) at L:C`, a line: the talk with that number by the arm
abbrev pub arm_item : Names_data → List Position → ℕ → Role → Role → Arm → List ℕ
arm_item names talks n sender receiver a = codes "- " ++ talk_by_text names sender receiver a ++ at_text (slice_get talks n) ++ codes "\n"

-- that line, where the arm leads to a talk of the round
abbrev pub item_within : Names_data → List Position → List ℕ → ℕ → Role → Role → Arm → List ℕ
item_within names talks round n sender receiver a = if is_among round a.next then arm_item names talks n sender receiver a else []

-- the lines of what stands at the number n
abbrev pub node_items : Names_data → List Position → List ℕ → ℕ → Option Node → List ℕ
node_items names talks round n (Some (Talk s r arms)) = flat_map (item_within names talks round n s r) arms
node_items names talks round n _ = []

-- the lines of the talk with the number n
abbrev pub talk_items : Names_data → Protocol_data → List Position → List ℕ → ℕ → List ℕ
talk_items names protocol talks round n = node_items names talks round n (slice_get protocol.nodes n)

-- `P may be left waiting while these go round:`, a line
abbrev pub waiting_head : Names_data → Role → List ℕ
waiting_head names role = name_at names.roles role.0 ++ codes " may be left waiting while these go round:\n"

-- the cure, a line
abbrev pub cure_line : Names_data → Role → List ℕ
cure_line names role = codes "cure: each time round, send " ++ name_at names.roles role.0 ++ codes " a message, even one that says there is nothing to do\n"

-- a line for each message that leads from one talk of the round to another, and the cure
abbrev pub waiting_lines : Names_data → Protocol_data → List Position → Role → List ℕ → List ℕ
waiting_lines names protocol talks role round =
    waiting_head names role ++ flat_map (talk_items names protocol talks round) round ++ cure_line names role
