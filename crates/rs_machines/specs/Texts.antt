-- Public: the text of a machine tree, with the spacing of canonical texts.
use Rattle.std.specs.Prelude.{ℕ, List}
use Rattle.rs_bodies.specs.declared.dialects.Dialect.TheVariants.{Acts}
use Rattle.rs_bodies.specs.Texts as bodies
use Rattle.rs_machines.specs.Trees.{MachineTree}

-- the line of the machine
abbrev pub machine_text : MachineTree → List ℕ
machine_text t = bodies.part_text Acts t
