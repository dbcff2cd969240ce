use Rattle.std.proofs.Common.{take}
use Rattle.rs_text.specs.Tables.{AreFiled}
use Rattle.rs_text.proofs.tables.index_of.Given as goal

abbrev pub invariant-loop-name : goal.invariant-loop-name
invariant-loop-name l = AreFiled (take l.name-index l.names) l.heads.items l.links.items
