-- Public: two roles that send to each other before they receive: with rings of one message both are held up, where over
-- unbounded queues none is. The roles are A and B.
use Rattle.std.specs.Prelude.{ℕ, List, [], ◌∷◌}
use Rattle.rs_model.specs.Data.{Machine_data, Protocol_data}
use Rattle.rs_model.specs.declared.graph.Arm.{Arm}
use Rattle.rs_model.specs.declared.graph.Node.TheVariants.{Finished, Talk}
use Rattle.rs_model.specs.declared.graph.Role.{Role}
use Rattle.rs_model.specs.declared.machines.Act.{Act}
use Rattle.rs_model.specs.declared.machines.Act.TheVariants as act
use Rattle.rs_model.specs.declared.machines.State.{State}
use Rattle.rs_model.specs.declared.machines.State.TheVariants.{Done, Puts, Takes}
use Rattle.rs_model.specs.declared.values.Sort.TheVariants as sort
use Rattle.rs_project.specs.Data.{Projection_data}
use Rattle.rs_derive.specs.Data.{DNode_data, Derivation_data}

-- role A
abbrev pub a : Role
a = record { 0 = 0 }

-- role B
abbrev pub b : Role
b = record { 0 = 1 }

-- one arm: x() has the label 0, and y() the label 1

-- x()
abbrev pub x : ℕ → List Arm
x next = record { label = record { 0 = 0 }; sort = sort.Unit; next = next } ∷ []

-- y()
abbrev pub y : ℕ → List Arm
y next = record { label = record { 0 = 1 }; sort = sort.Unit; next = next } ∷ []

-- `A->B:x(). A->B:x(). B->A:y(). B->A:y(). end`
abbrev pub crossing : Protocol_data
crossing = record { roles = 2; nodes = Talk a b (x 1) ∷ Talk a b (x 2) ∷ Talk b a (y 3) ∷ Talk b a (y 4) ∷ Finished ∷ []; root = 0 }

-- the machine of a role that starts in its first state
abbrev pub machine : Role → List State → Machine_data
machine role states = record { role = role; states = states; start = 0 }

-- each talk is a state of both roles
abbrev pub sets : List (List ℕ)
sets = (0 ∷ []) ∷ (1 ∷ []) ∷ (2 ∷ []) ∷ (3 ∷ []) ∷ [] ∷ []

-- A sends twice, and then receives twice
abbrev pub projection_for_a : Projection_data
projection_for_a = record { machine = machine a (Puts b (x 1) ∷ Puts b (x 2) ∷ Takes b (y 3) ∷ Takes b (y 4) ∷ Done ∷ []); sets = sets }

-- B receives twice, and then sends twice
abbrev pub projection_for_b : Projection_data
projection_for_b = record { machine = machine b (Takes a (x 1) ∷ Takes a (x 2) ∷ Puts a (y 3) ∷ Puts a (y 4) ∷ Done ∷ []); sets = sets }

-- the two projections, in role order
abbrev pub projections_of_crossing : List Projection_data
projections_of_crossing = projection_for_a ∷ projection_for_b ∷ []

-- `A!y(). A!y(). A?x(). A?x(). end`: B sends first
abbrev pub b_ahead : Machine_data
b_ahead = machine b (Puts a (y 1) ∷ Puts a (y 2) ∷ Takes a (x 3) ∷ Takes a (x 4) ∷ Done ∷ [])

-- A does as its projection does, and B sends first
abbrev pub machines_of_crossing : List Machine_data
machines_of_crossing = projection_for_a.machine ∷ b_ahead ∷ []

-- a node: its state, what is owed, the projection's state, its rank and its nexts
abbrev pub node : ℕ → List Act → ℕ → ℕ → List ℕ → DNode_data
node state pending above rank next = record { state = state; pending = pending; above = above; rank = rank; next = next }

-- an x() that is still to be received from A
abbrev pub takes_x : Act
takes_x = act.Takes a (record { 0 = 0 }) sort.Unit

-- a y() that is still to be received from B
abbrev pub takes_y : Act
takes_y = act.Takes b (record { 0 = 1 }) sort.Unit

-- A owes a receive only until it makes it
abbrev pub derivation_of_a : Derivation_data
derivation_of_a = record {
  role = a;
  bound = 16;
  nodes =
      node 0 [] 0 0 (1 ∷ [])
      ∷ node 1 [] 1 0 (2 ∷ [])
      ∷ node 2 [] 2 0 (3 ∷ [])
      ∷ node 2 (takes_y ∷ []) 3 0 (4 ∷ [])
      ∷ node 3 [] 3 0 (5 ∷ [])
      ∷ node 3 (takes_y ∷ []) 4 0 (6 ∷ [])
      ∷ node 4 [] 4 0 []
      ∷ [];
}

-- B owes both receives until it has sent twice
abbrev pub derivation_of_b : Derivation_data
derivation_of_b = record {
  role = b;
  bound = 16;
  nodes =
      node 0 [] 0 0 (1 ∷ [])
      ∷ node 0 (takes_x ∷ []) 1 3 (2 ∷ [])
      ∷ node 0 (takes_x ∷ takes_x ∷ []) 2 2 (3 ∷ [])
      ∷ node 1 (takes_x ∷ takes_x ∷ []) 3 1 (4 ∷ [])
      ∷ node 2 (takes_x ∷ takes_x ∷ []) 4 0 (5 ∷ [])
      ∷ node 3 (takes_x ∷ []) 4 0 (6 ∷ [])
      ∷ node 4 [] 4 0 []
      ∷ [];
}

-- the two derivations, in role order
abbrev pub derivations_of_crossing : List Derivation_data
derivations_of_crossing = derivation_of_a ∷ derivation_of_b ∷ []
