-- Public: the protocol that the reader makes of what a part spells.
use Rattle.std.specs.Prelude.{ℕ, List, ◌++◌, length, map}
use Rattle.rs_model.specs.Data.{Protocol_data, Names_data}
use Rattle.rs_model.specs.declared.graph.Arm.{Arm}
use Rattle.rs_model.specs.declared.graph.Node.{Node}
use Rattle.rs_model.specs.declared.graph.Node.TheVariants as node
use Rattle.rs_bodies.specs.declared.dialects.Head.{Head}
use Rattle.rs_bodies.specs.declared.dialects.Head.TheVariants as head
use Rattle.rs_bodies.specs.Data.{Point_data, Spelling_data}
use Rattle.rs_global.specs.Graph.{finish_of}

-- the node of a head; a protocol has talks alone
abbrev pub node_of_head : Head → List Arm → Node
node_of_head (head.Talk sender receiver) arms = node.Talk sender receiver arms
node_of_head (head.Act peer m) arms = node.Finished

-- the node of a head with its arms
abbrev pub node_of_point : Point_data → Node
node_of_point p = node_of_head p.head p.arms

-- the graph of what a part spells, with so many roles
abbrev pub graph_spelt : (roles : ℕ) → Spelling_data → Protocol_data
graph_spelt roles s = record { roles = roles; nodes = map node_of_point s.points ++ finish_of s.ended; root = s.start }

-- the protocol of what a part spells, with these names
abbrev pub protocol_spelt : Names_data → Spelling_data → Protocol_data
protocol_spelt names s = graph_spelt (length names.roles) s
