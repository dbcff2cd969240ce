-- Public: the text of a protocol tree, with the spacing of canonical texts.
use Rattle.std.specs.Prelude.{ℕ, List}
use Rattle.rs_bodies.specs.declared.dialects.Dialect.TheVariants.{Talks}
use Rattle.rs_bodies.specs.Texts as bodies
use Rattle.rs_global.specs.Trees.{ProtocolTree}

-- the names, separated by a comma and a space
abbrev pub names_text : List (List ℕ) → List ℕ
names_text names = bodies.names_text names

-- the roles line and the line of the protocol
abbrev pub protocol_text : ProtocolTree → List ℕ
protocol_text t = bodies.part_text Talks t
