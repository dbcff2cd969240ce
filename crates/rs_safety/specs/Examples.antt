-- Public: small protocols that show what the definitions say. Their roles are A, B and C.
use Rattle.std.specs.Prelude.{ℕ, List, [], ◌∷◌}
use Rattle.rs_model.specs.Data.{Protocol_data}
use Rattle.rs_model.specs.declared.graph.Arm.{Arm}
use Rattle.rs_model.specs.declared.graph.Node.TheVariants.{Finished, Talk}
use Rattle.rs_model.specs.declared.graph.Role.{Role}
use Rattle.rs_model.specs.declared.machines.State.{State}
use Rattle.rs_model.specs.declared.machines.State.TheVariants.{Done, Puts, Takes}
use Rattle.rs_model.specs.declared.values.Sort.TheVariants as sort
use Rattle.rs_project.specs.Data.{Projection_data}

-- role A
abbrev pub a : Role
a = record { 0 = 0 }

-- role B
abbrev pub b : Role
b = record { 0 = 1 }

-- role C
abbrev pub c : Role
c = record { 0 = 2 }

-- the arm with the label of that number and the unit value, to the next node or state
abbrev pub to : ℕ → ℕ → Arm
to label next = record { label = record { 0 = label }; sort = sort.Unit; next = next }

-- `rec X. A->B{more(). A->C:go(). X, stop(). A->C:halt(). end}`; the labels are 0 for more, 1 for stop, 2 for go and 3 for
-- halt
abbrev pub rounds : Protocol_data
rounds = record {
  roles = 3;
  nodes = Talk a b (to 0 1 ∷ to 1 2 ∷ []) ∷ Talk a c (to 2 0 ∷ []) ∷ Talk a c (to 3 3 ∷ []) ∷ Finished ∷ [];
  root = 0;
}

-- the projection with these states and sets, which starts at state 0
abbrev pub projection_with : Role → List State → List (List ℕ) → Projection_data
projection_with role states sets = record { machine = record { role = role; states = states; start = 0 }; sets = sets }

-- its projection onto A: each state stands for one talk, or for the end
abbrev pub rounds_for_a : Projection_data
rounds_for_a =
    projection_with a (Puts b (to 0 1 ∷ to 1 2 ∷ []) ∷ Puts c (to 2 0 ∷ []) ∷ Puts c (to 3 3 ∷ []) ∷ Done ∷ []) ((0 ∷ []) ∷ (1 ∷ []) ∷ (2 ∷ []) ∷ [] ∷ [])

-- onto B: what B first meets after `more` is the first talk again
abbrev pub rounds_for_b : Projection_data
rounds_for_b = projection_with b (Takes a (to 0 0 ∷ to 1 1 ∷ []) ∷ Done ∷ []) ((0 ∷ []) ∷ [] ∷ [])

-- onto C: before it hears `go` or `halt` C can't tell the two talks from A apart, and one state stands for both
abbrev pub rounds_for_c : Projection_data
rounds_for_c = projection_with c (Takes a (to 2 0 ∷ to 3 1 ∷ []) ∷ Done ∷ []) ((1 ∷ 2 ∷ []) ∷ [] ∷ [])

-- the three, in role order
abbrev pub projections_of_rounds : List Projection_data
projections_of_rounds = rounds_for_a ∷ rounds_for_b ∷ rounds_for_c ∷ []

-- `A->B{x(). A->C:z(). end, y(). end}`: C gets no message that says that there is nothing for it
abbrev pub not_told : Protocol_data
not_told = record { roles = 3; nodes = Talk a b (to 0 1 ∷ to 1 2 ∷ []) ∷ Talk a c (to 2 2 ∷ []) ∷ Finished ∷ []; root = 0 }

-- `rec X. A->B{x(). X, y(). A->C:z(). end}`: A and B may go on for ever, and C then waits for ever
abbrev pub left_waiting : Protocol_data
left_waiting = record { roles = 3; nodes = Talk a b (to 0 0 ∷ to 1 1 ∷ []) ∷ Talk a c (to 2 2 ∷ []) ∷ Finished ∷ []; root = 0 }
