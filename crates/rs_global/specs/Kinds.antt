-- Public: protocols as the graphs that parts spell.
use Rattle.rs_model.specs.Data.{Protocol_data, Names_data}
use Rattle.rs_bodies.specs.declared.dialects.Dialect.TheVariants.{Talks}
use Rattle.rs_bodies.specs.GraphKinds as bodies
use Rattle.rs_bodies.specs.Places.{places_of_protocol}
use Rattle.rs_bodies.specs.Spells as parts
use Rattle.rs_global.specs.Graph.{no_names, protocol_of_tree}
use Rattle.rs_global.specs.Parts.{protocol_spelt}
use Rattle.rs_global.specs.Trees.{ProtocolTree}

-- protocols, as the graphs that parts spell: what their opening says is how many roles there are
abbrev pub protocols : bodies.GraphKind Talks Protocol_data
protocols = record {
  graph_of = protocol_of_tree;
  made = protocol_spelt;
  places = λ p. places_of_protocol p;
  root = λ p. p.root;
  own = λ p. p.roles;
}

-- the names of a tree: roles in order of the roles line, labels in order of their first places
abbrev pub names_of : ProtocolTree → Names_data
names_of t = parts.names_of Talks no_names t

-- the graph that a tree spells
abbrev pub graph_of : ProtocolTree → Protocol_data
graph_of t = protocol_of_tree no_names t
