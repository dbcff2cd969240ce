-- Steps: the sessions that are run over rings. Their roles are A, B and C.
use Rattle.std.specs.Prelude.{ℕ, List, [], ◌∷◌}
use Rattle.rs_model.specs.Data.{Machine_data, Protocol_data}
use Rattle.rs_model.specs.declared.graph.Arm.{Arm}
use Rattle.rs_model.specs.declared.graph.Node.TheVariants.{Finished, Talk}
use Rattle.rs_model.specs.declared.graph.Role.{Role}
use Rattle.rs_model.specs.declared.machines.Act.{Act}
use Rattle.rs_model.specs.declared.machines.Act.TheVariants as act
use Rattle.rs_model.specs.declared.machines.State.{State}
use Rattle.rs_model.specs.declared.machines.State.TheVariants.{Done, Puts, Takes}
use Rattle.rs_model.specs.declared.values.Sort.{Sort}
use Rattle.rs_model.specs.declared.values.Sort.TheVariants as sort
use Rattle.rs_project.specs.Data.{Projection_data}
use Rattle.rs_derive.specs.Data.{DNode_data, Derivation_data}

-- role A
abbrev pub a : Role
a = record { 0 = 0 }

-- role B
abbrev pub b : Role
b = record { 0 = 1 }

-- role C
abbrev pub c : Role
c = record { 0 = 2 }

-- the arm with the label of that number: x is 0, y is 1 and z is 2
abbrev pub arm : ℕ → Sort → ℕ → Arm
arm label so next = record { label = record { 0 = label }; sort = so; next = next }

-- a state, or a talk, with one arm
abbrev pub puts : Role → ℕ → Sort → ℕ → State
puts peer label so next = Puts peer (arm label so next ∷ [])

-- a state that receives, with one arm
abbrev pub takes : Role → ℕ → Sort → ℕ → State
takes peer label so next = Takes peer (arm label so next ∷ [])

-- a machine that starts in its first state
abbrev pub machine : Role → List State → Machine_data
machine role states = record { role = role; states = states; start = 0 }

-- `rec X. A->B:x(nat). X`
abbrev pub stream : Protocol_data
stream = record { roles = 2; nodes = Talk a b (arm 0 sort.Natural 0 ∷ []) ∷ []; root = 0 }

-- its machines: each role does as its projection does
abbrev pub machines_of_stream : List Machine_data
machines_of_stream = machine a (puts b 0 sort.Natural 0 ∷ []) ∷ machine b (takes a 0 sort.Natural 0 ∷ []) ∷ []

-- `rec X. B->C:x(nat). C->B:y(nat). B->A:z(nat). X`
abbrev pub relay : Protocol_data
relay = record {
  roles = 3;
  nodes = Talk b c (arm 0 sort.Natural 1 ∷ []) ∷ Talk c b (arm 1 sort.Natural 2 ∷ []) ∷ Talk b a (arm 2 sort.Natural 0 ∷ []) ∷ [];
  root = 0;
}

-- its machines: each role does as its projection does
abbrev pub machines_of_relay : List Machine_data
machines_of_relay =
    machine a (takes b 2 sort.Natural 0 ∷ [])
    ∷ machine b (puts c 0 sort.Natural 1 ∷ takes c 1 sort.Natural 2 ∷ puts a 2 sort.Natural 0 ∷ [])
    ∷ machine c (takes b 0 sort.Natural 1 ∷ puts b 1 sort.Natural 0 ∷ [])
    ∷ []

-- `rec X. A->B:x(nat). B->A:y(nat). X`, where B sends its y before it takes the x: both send first in each round
abbrev pub rounds : Protocol_data
rounds = record { roles = 2; nodes = Talk a b (arm 0 sort.Natural 1 ∷ []) ∷ Talk b a (arm 1 sort.Natural 0 ∷ []) ∷ []; root = 0 }

-- its projections, in role order
abbrev pub projections_of_rounds : List Projection_data
projections_of_rounds =
    record { machine = machine a (puts b 0 sort.Natural 1 ∷ takes b 1 sort.Natural 0 ∷ []); sets = (0 ∷ []) ∷ (1 ∷ []) ∷ [] }
    ∷ record { machine = machine b (takes a 0 sort.Natural 1 ∷ puts a 1 sort.Natural 0 ∷ []); sets = (0 ∷ []) ∷ (1 ∷ []) ∷ [] }
    ∷ []

-- its machines: A does as its projection does, and B sends first
abbrev pub machines_of_rounds : List Machine_data
machines_of_rounds =
    machine a (puts b 0 sort.Natural 1 ∷ takes b 1 sort.Natural 0 ∷ [])
    ∷ machine b (puts a 1 sort.Natural 1 ∷ takes a 0 sort.Natural 0 ∷ [])
    ∷ []

-- `A->B:x(). B->A:y(). end`, where B sends first
abbrev pub swap : Protocol_data
swap = record { roles = 2; nodes = Talk a b (arm 0 sort.Unit 1 ∷ []) ∷ Talk b a (arm 1 sort.Unit 2 ∷ []) ∷ Finished ∷ []; root = 0 }

-- its machines: A does as its projection does, and B sends first
abbrev pub machines_of_swap : List Machine_data
machines_of_swap =
    machine a (puts b 0 sort.Unit 1 ∷ takes b 1 sort.Unit 2 ∷ Done ∷ [])
    ∷ machine b (puts a 1 sort.Unit 1 ∷ takes a 0 sort.Unit 2 ∷ Done ∷ [])
    ∷ []

-- the derivations: A owes a receive only until it makes it, and B owes its x while it sends the y
abbrev pub node : ℕ → List Act → ℕ → ℕ → List ℕ → DNode_data
node state pending above rank next = record { state = state; pending = pending; above = above; rank = rank; next = next }

-- A owes the receive of y
abbrev pub takes_y : Sort → List Act
takes_y so = act.Takes b (record { 0 = 1 }) so ∷ []

-- B owes the receive of x
abbrev pub takes_x : Sort → List Act
takes_x so = act.Takes a (record { 0 = 0 }) so ∷ []
