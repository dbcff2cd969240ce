use Rattle.rs_search.specs.Nodes.{AreKept}
use Rattle.rs_explain.proofs.kept.kept_rows.Given as goal

abbrev pub invariant-loop-i : goal.invariant-loop-i
invariant-loop-i l = AreKept l.keeps l.items l.nexts l.i l.kept.items
