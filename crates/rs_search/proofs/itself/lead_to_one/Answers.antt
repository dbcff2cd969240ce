use Rattle.std.proofs.Common.{length}
use Rattle.rs_search.specs.Itself.{even}
use Rattle.rs_search.proofs.Lengthening.{leads_one, positions_stay, stays_within}
use Rattle.rs_search.proofs.itself.lead_to_one.Goals as goal

pub set_nexts-requires : goal.set_nexts-requires
set_nexts-requires c = record { here = stays_within c.args.nodes.now.items c.come_to.new.nodes.items c.args.number c.in_ok-n.ensures.longer c.requires.here }

pub returns-clause-leads : goal.returns-clause-leads
returns-clause-leads c =
    let e = c.in_ok-n.ensures in
    leads_one c.args.nodes.now.items c.come_to.new.nodes.items c.set_nexts.new.nodes.items c.args.number c.in_ok-n.n c.of_one.result (even c.args.state) e.longer e.named c.of_one.ensures c.set_nexts.ensures

pub returns-clause-positions : goal.returns-clause-positions
returns-clause-positions c =
    positions_stay c.come_to.new.nodes.items c.set_nexts.new.nodes.items c.args.number c.of_one.result c.come_to.new.places.items (length c.args.places.now.items) c.set_nexts.ensures
    c.in_ok-n.ensures.positions
