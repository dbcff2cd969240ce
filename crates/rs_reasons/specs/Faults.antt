-- Public: where a protocol or a machine that isn't well formed is at fault.
use Rattle.std.specs.Prelude.{ℕ, List, ◌++◌, codes}
use Rattle.rs_model.specs.Data.{Machine_data, Names_data, Protocol_data}
use Rattle.rs_model.specs.declared.checks.MachineFault.{MachineFault}
use Rattle.rs_model.specs.declared.checks.MachineFault.TheVariants as bad
use Rattle.rs_places.specs.declared.places.Position.{Position}
use Rattle.rs_wellformed.specs.declared.checks.WfFault.{WfFault}
use Rattle.rs_wellformed.specs.declared.checks.WfFault.TheVariants as wf
use Rattle.rs_walk_texts.specs.Heads.{placed_head_text, placed_talk_text}

-- the node that is at fault
abbrev pub node_of : WfFault → ℕ
node_of (wf.SelfTalk node) = node
node_of (wf.NoArms node) = node
node_of (wf.TooManyArms node) = node
node_of (wf.TwiceLabel node label) = node
node_of (wf.BadNext node) = node

-- `talk: A->B:x(sort) at L:C`
abbrev pub talk_line : Names_data → Protocol_data → List Position → WfFault → List ℕ
talk_line names protocol talks fault = codes "talk: " ++ placed_talk_text names protocol.nodes talks (node_of fault) ++ codes "\n"

-- the state that is at fault
abbrev pub state_of : MachineFault → ℕ
state_of (bad.BadNext state) = state
state_of (bad.NoArms state) = state
state_of (bad.TwiceLabel state label) = state
state_of (bad.SelfPeer state) = state
state_of (bad.UnknownPeer state) = state

-- `state: Q!x(sort) at L:C`
abbrev pub state_line : Names_data → List Position → Machine_data → MachineFault → List ℕ
state_line names states machine fault = codes "state: " ++ placed_head_text names machine.states states (state_of fault) ++ codes "\n"
