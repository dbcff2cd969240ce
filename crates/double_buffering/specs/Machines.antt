-- Steps: the machines of kernel, source and sink.
use Rattle.std.specs.Prelude.{ℕ, [], ◌∷◌, List}
use Rattle.rs_model.specs.Data.{Machine_data}
use Rattle.rs_model.specs.declared.graph.Arm.{Arm}
use Rattle.rs_model.specs.declared.machines.State.TheVariants.{Done, Puts, Takes}
use Rattle.rs_model.specs.declared.values.Sort.TheVariants as sort
use Rattle.double_buffering.specs.declared.names.TheConstants.{KERNEL_ROLE, SOURCE_ROLE, SINK_ROLE}

-- the arm `ready()`, which leads to that state
abbrev pub ready_then : ℕ → Arm
ready_then next = record { label = record { 0 = 0 }; sort = sort.Unit; next = next }

-- the arm `copy(bytes)`, which leads to that state
abbrev pub copy_then : ℕ → Arm
copy_then next = record { label = record { 0 = 1 }; sort = sort.Octets; next = next }

-- the arm `stop()`, which leads to that state
abbrev pub stop_then : ℕ → Arm
stop_then next = record { label = record { 0 = 2 }; sort = sort.Unit; next = next }

-- machine K: S!ready(). rec X. S!ready(). T?ready(). S?{copy(bytes). T!copy(bytes). X, stop(). T!stop(). end}
abbrev pub kernel : Machine_data
kernel = record {
  role = KERNEL_ROLE;
  states =
      Puts SOURCE_ROLE (ready_then 1 ∷ [])
      ∷ Puts SOURCE_ROLE (ready_then 2 ∷ [])
      ∷ Takes SINK_ROLE (ready_then 3 ∷ [])
      ∷ Takes SOURCE_ROLE (copy_then 4 ∷ stop_then 5 ∷ [])
      ∷ Puts SINK_ROLE (copy_then 1 ∷ [])
      ∷ Puts SINK_ROLE (stop_then 6 ∷ [])
      ∷ Done
      ∷ [];
  start = 0;
}

-- machine S: rec X. K?ready(). K!{copy(bytes). X, stop(). K?ready(). end}
abbrev pub source : Machine_data
source = record {
  role = SOURCE_ROLE;
  states =
      Takes KERNEL_ROLE (ready_then 1 ∷ [])
      ∷ Puts KERNEL_ROLE (copy_then 0 ∷ stop_then 2 ∷ [])
      ∷ Takes KERNEL_ROLE (ready_then 3 ∷ [])
      ∷ Done
      ∷ [];
  start = 0;
}

-- machine T: rec X. K!ready(). K?{copy(bytes). X, stop(). end}
abbrev pub sink : Machine_data
sink = record {
  role = SINK_ROLE;
  states =
      Puts KERNEL_ROLE (ready_then 1 ∷ [])
      ∷ Takes KERNEL_ROLE (copy_then 0 ∷ stop_then 2 ∷ [])
      ∷ Done
      ∷ [];
  start = 0;
}

-- the machines of all three, in role order
abbrev pub all_machines : List Machine_data
all_machines = kernel ∷ source ∷ sink ∷ []
