-- Public: what is told of the machines of a session that is accepted: how far ahead each is, and which receives it never makes.
use Rattle.std.specs.Prelude.{ℕ, suc, List, [], ◌∷◌, ◌++◌, codes, length, if◌then◌else◌, ◌==◌, slice_get, slice_index_or, Option, Some, None}
use Rattle.std.specs.Fmt.{decimal}
use Rattle.std.specs.List.{flat_map, list_any}
use Rattle.rs_derive.specs.Data.{DNode_data, Derivation_data}
use Rattle.rs_model.specs.Data.{Machine_data, Names_data}
use Rattle.rs_model.specs.declared.graph.Arm.{Arm}
use Rattle.rs_model.specs.declared.graph.Role.{Role}
use Rattle.rs_model.specs.declared.machines.Act.TheVariants as act
use Rattle.rs_model.specs.declared.machines.State.{State}
use Rattle.rs_model.specs.declared.machines.State.TheVariants.{Done, Puts, Takes}
use Rattle.rs_places.specs.declared.places.Position.{Position}
use Rattle.rs_project.specs.Data.{Projection_data}
use Rattle.rs_text.specs.NamePlaces.{name_at}
use Rattle.rs_walk_texts.specs.Heads.{act_text, acts_text, at_text, placed_head_text}
use Rattle.rs_reasons.specs.Ahead.{Standing_data, furthest, nowhere}
use Rattle.rs_reasons.specs.Uses.{is_visited, takes}

-- how far ahead of its projection the machine comes, and where
abbrev pub standing_text : Names_data → List Position → Machine_data → Standing_data → List ℕ
standing_text names places machine s =
    codes " is ahead by " ++ decimal (length s.owed) ++ codes ": at " ++ placed_head_text names machine.states places s.state ++ codes " it still owes " ++ acts_text names s.owed

-- the same, where it comes ahead
abbrev pub ahead_text : Names_data → List Position → Machine_data → Standing_data → List ℕ
ahead_text names places machine s =
    if length s.owed == 0 then codes " is never ahead" else standing_text names places machine s

-- `P is ahead by N: at Q!x(sort) at L:C it still owes R?y()`, or `P is never ahead`
abbrev pub ahead_line : Names_data → List ℕ → List Position → Machine_data → Machine_data → Derivation_data → List ℕ
ahead_line names role places machine above d = role ++ ahead_text names places machine (furthest machine above nowhere d.nodes) ++ codes "\n"

-- `P: nothing brings Q?x(sort) at L:C`
abbrev pub unused_line : Names_data → List ℕ → Role → Arm → Option Position → List ℕ
unused_line names role peer a at = role ++ codes ": nothing brings " ++ act_text names (act.Takes peer a.label a.sort) ++ at_text at ++ codes "\n"

-- the line of an arm of a receive, unless some node takes it at the state
abbrev pub unused_arm : Names_data → List ℕ → List DNode_data → ℕ → Option Position → Role → Arm → List ℕ
unused_arm names role nodes state at peer a = if list_any (takes state peer a.label) nodes then [] else unused_line names role peer a at

-- the lines of a state's arms
abbrev pub unused_arms : Names_data → List ℕ → List DNode_data → ℕ → Option Position → State → List ℕ
unused_arms names role nodes state at Done = []
unused_arms names role nodes state at (Puts peer arms) = []
unused_arms names role nodes state at (Takes peer arms) = flat_map (unused_arm names role nodes state at peer) arms

-- the lines of the states from this one on: those at which some node stands
abbrev pub unused_lines : Names_data → List ℕ → List Position → List DNode_data → ℕ → List State → List ℕ
unused_lines names role states nodes state [] = []
unused_lines names role states nodes state (s ∷ later) =
    (if is_visited nodes state then unused_arms names role nodes state (slice_get states state) s else []) ++ unused_lines names role states nodes (suc state) later

-- all that is told of a role's own machine, beside its projection
abbrev pub machine_lines : Names_data → List ℕ → List Position → Machine_data → Machine_data → Derivation_data → List ℕ
machine_lines names role places machine above d = ahead_line names role places machine above d ++ unused_lines names role places d.nodes 0 machine.states

-- what is told of a role, which has this machine of its own or none
abbrev pub own_lines : Names_data → List (List Position) → ℕ → Option Machine_data → Projection_data → Derivation_data → List ℕ
own_lines names places role None projection d = []
own_lines names places role (Some machine) projection d = machine_lines names (name_at names.roles role) (slice_index_or places role []) machine projection.machine d

-- what is told of the roles from this one on
abbrev pub machines_lines : Names_data → List (List Position) → ℕ → List (Option Machine_data) → List Projection_data → List Derivation_data → List ℕ
machines_lines names places role [] projections derivations = []
machines_lines names places role (own ∷ machines) [] derivations = []
machines_lines names places role (own ∷ machines) (projection ∷ projections) [] = []
machines_lines names places role (own ∷ machines) (projection ∷ projections) (d ∷ derivations) =
    own_lines names places role own projection d ++ machines_lines names places (suc role) machines projections derivations
