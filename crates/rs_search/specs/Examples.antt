-- Public: two small machines.
use Rattle.std.specs.Prelude.{[], ◌∷◌}
use Rattle.rs_model.specs.Data.{Machine_data}
use Rattle.rs_model.specs.declared.machines.State.TheVariants.{Done, Takes}

-- one that has ended
abbrev pub ended_machine : Machine_data
ended_machine = record { role = record { 0 = 0 }; states = Done ∷ []; start = 0 }

-- one that waits for role 1
abbrev pub waiting : Machine_data
waiting = record { role = record { 0 = 0 }; states = Takes (record { 0 = 1 }) [] ∷ []; start = 0 }
