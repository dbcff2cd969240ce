-- The machine that a reader has read.
use Rattle.rs_model.specs.Data.{Machine_data}
use Rattle.rs_tables.specs.Data.{Reader_data}

-- what was read, as a machine
abbrev pub machine_read : Reader_data → Machine_data
machine_read r = record { role = r.role; states = r.states; start = 0 }
