-- Headline: the protocol that a tree spells.
use Rattle.std.specs.Prelude.{ℕ, List, [], ◌∷◌, ◌++◌, length, Bool, true, false}
use Rattle.rs_model.specs.Data.{Protocol_data, Names_data}
use Rattle.rs_model.specs.declared.graph.Arm.{Arm}
use Rattle.rs_model.specs.declared.graph.Node.{Node}
use Rattle.rs_model.specs.declared.graph.Node.TheVariants as node
use Rattle.rs_bodies.specs.declared.dialects.Dialect.TheVariants.{Talks}
use Rattle.rs_bodies.specs.Dialects.{BehindRole, sends_to}
use Rattle.rs_bodies.specs.Graph.{acts_in, has_end, first_of, heads_of, Numbering, role_by_name}
use Rattle.rs_bodies.specs.Openings.{roles_in}
use Rattle.rs_bodies.specs.Spells.{Tree, numbering}

-- no names are there before a protocol
abbrev pub no_names : Names_data
no_names = record { roles = []; labels = [] }

-- the talk from s to the receiver behind the arrow, with these arms
abbrev pub talk_of_turn : Numbering → List ℕ → BehindRole Talks → List Arm → Node
talk_of_turn n s (sends_to r) arms = node.Talk (role_by_name n s) (role_by_name n r) arms

-- one Finished stands behind the last talk exactly where the text has an end
abbrev pub finish_of : Bool → List Node
finish_of true = node.Finished ∷ []
finish_of false = []

-- the protocol that a tree spells, where these names were there: its talks in order of text, and the end
abbrev pub protocol_of_tree : Names_data → Tree Talks → Protocol_data
protocol_of_tree old t = record {
  roles = length (roles_in Talks old t.opening);
  nodes = heads_of Talks (talk_of_turn (numbering Talks old t)) (numbering Talks old t) t.body [] 0 ++ finish_of (has_end Talks t.body);
  root = first_of Talks t.body [] 0 (acts_in Talks t.body);
}
