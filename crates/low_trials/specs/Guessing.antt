-- Steps: a machine that sends ahead of a choice, and its projection.
use Rattle.std.specs.Prelude.{ℕ, [], ◌∷◌}
use Rattle.rs_model.specs.Data.{Machine_data}
use Rattle.rs_model.specs.declared.graph.Arm.{Arm}
use Rattle.rs_model.specs.declared.machines.State.{State}
use Rattle.rs_model.specs.declared.machines.State.TheVariants.{Done, Puts}
use Rattle.rs_model.specs.declared.values.Sort.TheVariants as sort

-- an arm without a value
abbrev pub plain_arm : (label next : ℕ) → Arm
plain_arm label next = record { label = record { 0 = label }; sort = sort.Unit; next = next }

-- a state that sends to the peer by one such arm
abbrev pub sends : (peer label next : ℕ) → State
sends peer label next = Puts (record { 0 = peer }) (plain_arm label next ∷ [])

-- role 0 sends role 1 label 0 or label 1, and then role 2 label 2
abbrev pub chooses : Machine_data
chooses = record {
  role = record { 0 = 0 };
  states = Puts (record { 0 = 1 }) (plain_arm 0 1 ∷ plain_arm 1 2 ∷ []) ∷ sends 2 2 3 ∷ sends 2 2 3 ∷ Done ∷ [];
  start = 0;
}

-- it sends role 2 label 2 first, and then role 1 label 1
abbrev pub sends_ahead : Machine_data
sends_ahead = record { role = record { 0 = 0 }; states = sends 2 2 1 ∷ sends 1 1 2 ∷ Done ∷ []; start = 0 }
