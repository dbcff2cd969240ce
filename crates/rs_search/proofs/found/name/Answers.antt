use Rattle.rs_derive.specs.Targets.{target_spot}
use Rattle.rs_graph.proofs.Growth.{named_push}
use Rattle.rs_search.proofs.found.name.Goals as goal

pub returns-clause-named : goal.returns-clause-named
returns-clause-named c = λ p h old ys a.
    named_push old ys c.args.table.now.spots c.number_of.new.self.spots (target_spot p.pending c.args.target) c.in_ok-n.n c.args.row.now c.push.new.self a
    (c.in_ok-n.ensures.named p h) c.in_ok-push.ensures.ok
