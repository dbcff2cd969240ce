-- Public: the arrows of a picture, and the messages of a protocol.
use Rattle.std.specs.Prelude.{List, [], ◌∷◌, ◌++◌, map}
use Rattle.rs_model.specs.Data.{Names_data, Protocol_data}
use Rattle.rs_model.specs.declared.graph.Arm.{Arm}
use Rattle.rs_model.specs.declared.graph.Node.{Node}
use Rattle.rs_model.specs.declared.graph.Node.TheVariants.{Finished, Talk}
use Rattle.rs_text.specs.NamePlaces.{name_at}
use Rattle.rs_text.specs.Shown.{shown_sort}
use Rattle.rs_pictures.specs.Lines.{Says, message, Line}

-- what an arrow says; other lines have none
abbrev pub arrow_of : Says → List Says
arrow_of (message s r label sort) = message s r label sort ∷ []
arrow_of _ = []

-- the arrows among lines, in order
abbrev pub arrows_in : List Line → List Says
arrows_in [] = []
arrows_in (line ∷ lines) = arrow_of line.says ++ arrows_in lines

-- the messages of a node: one for each arm of a talk
abbrev pub messages_of_node : Names_data → Node → List Says
messages_of_node names Finished = []
messages_of_node names (Talk s r arms) = map (λ (a : Arm). message s r (name_at names.labels a.label.0) (shown_sort a.sort)) arms

-- the messages of nodes
abbrev pub messages_of_nodes : Names_data → List Node → List Says
messages_of_nodes names [] = []
messages_of_nodes names (node ∷ nodes) = messages_of_node names node ++ messages_of_nodes names nodes

-- the messages of a protocol, node by node
abbrev pub messages_of : Names_data → Protocol_data → List Says
messages_of names p = messages_of_nodes names p.nodes
