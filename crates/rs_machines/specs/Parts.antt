-- Public: the machine that the reader makes of what a part spells.
use Rattle.std.specs.Prelude.{List, ◌++◌, map}
use Rattle.rs_model.specs.Data.{Machine_data}
use Rattle.rs_model.specs.declared.graph.Arm.{Arm}
use Rattle.rs_model.specs.declared.machines.State.{State}
use Rattle.rs_model.specs.declared.machines.State.TheVariants as state
use Rattle.rs_bodies.specs.declared.dialects.Head.{Head}
use Rattle.rs_bodies.specs.declared.dialects.Head.TheVariants as head
use Rattle.rs_bodies.specs.Data.{Point_data, Spelling_data}
use Rattle.rs_machines.specs.Machines.{state_by_mark, end_states}

-- the state of a head; a machine has acts alone
abbrev pub state_of_head : Head → List Arm → State
state_of_head (head.Act peer m) arms = state_by_mark m peer arms
state_of_head (head.Talk sender receiver) arms = state.Done

-- the state of a head with its arms
abbrev pub state_of_point : Point_data → State
state_of_point p = state_of_head p.head p.arms

-- the machine of what a part spells
abbrev pub machine_spelt : Spelling_data → Machine_data
machine_spelt s = record { role = s.role; states = map state_of_point s.points ++ end_states s.ended; start = s.start }
