use Rattle.rs_graph.specs.Paths.{NoneMoreAhead, Searching, to_do}
use Rattle.rs_graph.proofs.cycles.follow.Given as goal

abbrev pub invariant-loop-part : goal.invariant-loop-part
invariant-loop-part l = Searching l.rows l.search.marks.items l.search.path.items l.search.edges.items l.search.parts.items × NoneMoreAhead l.fn.search.marks.items l.search.marks.items

abbrev pub decreases-loop-part : goal.decreases-loop-part
decreases-loop-part l = to_do l.rows l.search.marks.items l.search.edges.items l.search.parts.items
