-- Public: how texts of the protocol grammar are built.
use Rattle.std.specs.Prelude.{List}
use Rattle.rs_text.specs.Signs.{Sign}
use Rattle.rs_bodies.specs.declared.dialects.Dialect.TheVariants.{Talks}
use Rattle.rs_bodies.specs.Spells as parts
use Rattle.rs_bodies.specs.Spells.{Tree, tree_signs}
use Rattle.rs_global.specs.Graph.{no_names}

-- a protocol: the roles line, with two roles or more, and a body of talks
abbrev pub ProtocolTree : Type 0
ProtocolTree = Tree Talks

-- the tokens of a protocol
abbrev pub protocol_signs : ProtocolTree → List Sign
protocol_signs t = tree_signs Talks t

-- names and limits
abbrev pub Fits : ProtocolTree → Type 0
Fits t = parts.Fits Talks no_names t
