-- Public: a machine that waits where its projection sends. The roles are A and B.
use Rattle.std.specs.Prelude.{ℕ, List, [], ◌∷◌}
use Rattle.rs_model.specs.Data.{Machine_data}
use Rattle.rs_model.specs.declared.graph.Arm.{Arm}
use Rattle.rs_model.specs.declared.graph.Role.{Role}
use Rattle.rs_model.specs.declared.machines.State.{State}
use Rattle.rs_model.specs.declared.machines.State.TheVariants.{Done, Puts, Takes}
use Rattle.rs_model.specs.declared.values.Sort.TheVariants as sort

-- role A
abbrev a : Role
a = record { 0 = 0 }

-- role B
abbrev b : Role
b = record { 0 = 1 }

-- one arm with the unit value: x() has the label 0, and y() the label 1

-- x()
abbrev x : ℕ → List Arm
x next = record { label = record { 0 = 0 }; sort = sort.Unit; next = next } ∷ []

-- y()
abbrev y : ℕ → List Arm
y next = record { label = record { 0 = 1 }; sort = sort.Unit; next = next } ∷ []

-- the machine of A that starts in its first state
abbrev machine : List State → Machine_data
machine states = record { role = a; states = states; start = 0 }

-- `B!x(). B?y(). end`: the projection of `A->B:x(). B->A:y(). end` onto A
abbrev pub projected_a : Machine_data
projected_a = machine (Puts b (x 1) ∷ Takes b (y 2) ∷ Done ∷ [])

-- `B?y(). B!x(). end`
abbrev pub waiting_a : Machine_data
waiting_a = machine (Takes b (y 1) ∷ Puts b (x 2) ∷ Done ∷ [])
