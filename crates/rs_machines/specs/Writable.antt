-- Public: trees whose names can be written.
use Rattle.rs_bodies.specs.declared.dialects.Dialect.TheVariants.{Acts}
use Rattle.rs_bodies.specs.Writable as bodies
use Rattle.rs_machines.specs.Trees.{MachineTree}

-- the role, the peers and the recursion names of a machine are words other than rec and end, its labels words
abbrev pub AreWords : MachineTree → Type 0
AreWords t = bodies.AreWords Acts t
