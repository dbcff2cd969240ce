-- Public: trees whose names can be written.
use Rattle.rs_bodies.specs.declared.dialects.Dialect.TheVariants.{Talks}
use Rattle.rs_bodies.specs.Writable as bodies
use Rattle.rs_global.specs.Trees.{ProtocolTree}

-- the roles and recursion names of a protocol are words other than rec and end, its labels words
abbrev pub AreWords : ProtocolTree → Type 0
AreWords t = bodies.AreWords Talks t
