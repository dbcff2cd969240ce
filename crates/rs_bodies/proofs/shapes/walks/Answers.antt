use Rattle.std.proofs.Common.{◌+◌, arith}
use Rattle.rs_bodies.proofs.Reaches.{walk_is}
use Rattle.rs_bodies.proofs.shapes.walks.Goals as goal

pub returns : goal.returns
returns g c =
    walk_is (g.G.NumberedGraph.places c.args.graph.now) c.args.trail.now (c.args.trail.now.last + 1) c.start.result
    (g.G.NumberedGraph.root c.args.graph.now) c.args.labels c.is_whole.result c.walk_behind_next-walk.result
    (omega arith) c.requires.last c.start.ensures c.is_whole.ensures c.walk_behind_next-walk.ensures
