use Rattle.std.proofs.Common.{rules}
use Rattle.rs_graph.proofs.Following.{path_ends, taken_off}
use Rattle.rs_graph.proofs.cycles.follow.Goals as goal

pub look-requires-clause-off : goal.look-requires-clause-off
look-requires-clause-off c =
    taken_off c.args.rows.now c.loop-part.search.marks.items c.loop-part.search.path.items c.loop-part.search.edges.items c.loop-part.search.parts.items c.pop.new.self.items c.in-Some.part
    c.in-Some.ensures.items c.loop-part.invariant.0

pub returns-clause-none : goal.returns-clause-none
returns-clause-none c =
    path_ends c.args.rows.now c.loop-part.search.marks.items c.loop-part.search.path.items c.loop-part.search.edges.items c.loop-part.search.parts.items (search rules) c.loop-part.invariant.0
