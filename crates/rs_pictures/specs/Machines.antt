-- Public: the picture of a machine: a state diagram, in the syntax of Mermaid.
use Rattle.std.specs.Prelude.{ℕ, suc, List, [], ◌∷◌, ◌++◌, codes}
use Rattle.std.specs.Fmt.{decimal}
use Rattle.std.specs.List.{flat_map}
use Rattle.rs_model.specs.Data.{Machine_data, Names_data}
use Rattle.rs_model.specs.declared.graph.Arm.{Arm}
use Rattle.rs_model.specs.declared.graph.Role.{Role}
use Rattle.rs_model.specs.declared.machines.State.{State}
use Rattle.rs_model.specs.declared.machines.State.TheVariants as state
use Rattle.rs_text.specs.NamePlaces.{name_at}
use Rattle.rs_text.specs.Shown.{shown_sort, shown_text}

-- the state with this number
abbrev pub state_name : ℕ → List ℕ
state_name n = codes "s" ++ decimal n

-- an act: the peer, `!` where it is sent to and `?` where it is received from, the label and the sort
abbrev pub act_text : Names_data → Role → (mark : List ℕ) → Arm → List ℕ
act_text names peer mark a = name_at names.roles peer.0 ++ mark ++ name_at names.labels a.label.0 ++ codes "(" ++ shown_text (shown_sort a.sort) ++ codes ")"

-- an arrow for an arm of state n: to the next state, by the act
abbrev pub arrow_text : Names_data → (n : ℕ) → Role → (mark : List ℕ) → Arm → List ℕ
arrow_text names n peer mark a = codes "    " ++ state_name n ++ codes " --> " ++ state_name a.next ++ codes ": " ++ act_text names peer mark a ++ codes "\n"

-- an arrow for each arm of state n; from a state that is done one to the end
abbrev pub state_arrows : Names_data → ℕ → State → List ℕ
state_arrows names n state.Done = codes "    " ++ state_name n ++ codes " --> [*]\n"
state_arrows names n (state.Puts peer arms) = flat_map (arrow_text names n peer (codes "!")) arms
state_arrows names n (state.Takes peer arms) = flat_map (arrow_text names n peer (codes "?")) arms

-- the arrows of states, of which the first one has the number n
abbrev pub arrows_from : Names_data → ℕ → List State → List ℕ
arrows_from names n [] = []
arrows_from names n (s ∷ later) = state_arrows names n s ++ arrows_from names (suc n) later

-- the picture of a machine: an arrow to its start, and the arrows of its states
abbrev pub machine_picture : Names_data → Machine_data → List ℕ
machine_picture names m = codes "stateDiagram-v2\n    [*] --> " ++ state_name m.start ++ codes "\n" ++ arrows_from names 0 m.states

-- what is written beside state n: how many acts the machine puts off there
abbrev pub state_puts_off : (n acts : ℕ) → List ℕ
state_puts_off n acts = codes "    " ++ state_name n ++ codes ": " ++ state_name n ++ codes " puts off " ++ decimal acts ++ codes "\n"

-- what is written beside states, of which the first one has the number n; the function gives the number of acts for each
abbrev pub states_put_off : (acts : ℕ → ℕ) → ℕ → List State → List ℕ
states_put_off acts n [] = []
states_put_off acts n (s ∷ later) = state_puts_off n (acts n) ++ states_put_off acts (suc n) later

-- the picture of a machine, and beside each state how many acts the machine puts off there
abbrev pub machine_picture_with : Names_data → (acts : ℕ → ℕ) → Machine_data → List ℕ
machine_picture_with names acts m = machine_picture names m ++ states_put_off acts 0 m.states
