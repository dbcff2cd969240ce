use Rattle.std.proofs.Common.{Bool, ◌↔◌, sym, subst}
use Rattle.std.specs.Bool.{IsTrue}
use Rattle.rs_bodies.specs.Bodied.{HasBody}
use Rattle.rs_bodies.proofs.ShapeWhole.{walked_exactly}
use Rattle.rs_bodies.proofs.shapes.has_body.Goals as goal

pub returns : goal.returns
returns g c =
    subst (λ (z : Bool). IsTrue z ↔ HasBody c.args.dialect c.args.roles c.args.labels (g.G.NumberedGraph.places c.args.graph.now) (g.G.NumberedGraph.root c.args.graph.now)) (sym c.is_walked.ensures)
    (walked_exactly c.args.dialect c.args.roles (g.G.NumberedGraph.root c.args.graph.now) c.args.labels (g.G.NumberedGraph.places c.args.graph.now) c.requires.roles c.requires.labels)
