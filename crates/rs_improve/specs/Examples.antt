-- Public: a small machine, before and after its swap.
use Rattle.std.specs.Prelude.{ℕ, [], ◌∷◌}
use Rattle.rs_model.specs.Data.{Machine_data}
use Rattle.rs_model.specs.declared.graph.Arm.{Arm}
use Rattle.rs_model.specs.declared.graph.Role.{Role}
use Rattle.rs_model.specs.declared.machines.State.TheVariants.{Done, Puts, Takes}
use Rattle.rs_model.specs.declared.values.Sort.TheVariants as sort

-- role 0
abbrev pub other_role : Role
other_role = record { 0 = 0 }

-- the message with label 0, and then the state with this number
abbrev pub receive_then : ℕ → Arm
receive_then n = record { label = record { 0 = 0 }; sort = sort.Unit; next = n }

-- the message with label 1, and then the state with this number
abbrev pub send_then : ℕ → Arm
send_then n = record { label = record { 0 = 1 }; sort = sort.Unit; next = n }

-- role 1 receives from role 0, sends to it, and ends
abbrev pub receives_first : Machine_data
receives_first = record { role = record { 0 = 1 }; states = Takes other_role (receive_then 1 ∷ []) ∷ Puts other_role (send_then 2 ∷ []) ∷ Done ∷ []; start = 0 }

-- it sends, receives, and ends
abbrev pub sends_first : Machine_data
sends_first = record { role = record { 0 = 1 }; states = Puts other_role (send_then 1 ∷ []) ∷ Takes other_role (receive_then 2 ∷ []) ∷ Done ∷ []; start = 0 }
