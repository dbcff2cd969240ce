-- Public: machines as the graphs that parts spell.
use Rattle.rs_model.specs.Data.{Machine_data, Names_data}
use Rattle.rs_bodies.specs.declared.dialects.Dialect.TheVariants.{Acts}
use Rattle.rs_bodies.specs.GraphKinds as bodies
use Rattle.rs_bodies.specs.Places.{places_of_machine}
use Rattle.rs_bodies.specs.Spells as parts
use Rattle.rs_machines.specs.Machines.{machine_of_tree}
use Rattle.rs_machines.specs.Parts.{machine_spelt}
use Rattle.rs_machines.specs.Trees.{MachineTree}

-- machines, as the graphs that parts spell: what their opening says is which role they belong to
abbrev pub machines : bodies.GraphKind Acts Machine_data
machines = record {
  graph_of = machine_of_tree;
  made = λ names spelling. machine_spelt spelling;
  places = λ m. places_of_machine m;
  root = λ m. m.start;
  own = λ m. m.role.0;
}

-- the names that were there, with the labels that are new behind them in order of their first places
abbrev pub names_of : Names_data → MachineTree → Names_data
names_of old t = parts.names_of Acts old t
