use Rattle.std.proofs.Common.{arith, ◌≡◌, ◌∙◌, [], refl, sym}
use Rattle.rs_derive.specs.Moves.{Spot, owing_receive}
use Rattle.rs_graph.proofs.Growth.{named_new}
use Rattle.rs_search.specs.Itself.{even}
use Rattle.rs_search.specs.Spots.{spots_of}
use Rattle.rs_search.proofs.Alike.{placed_owing}
use Rattle.rs_search.proofs.Lengthening.{leads_one, positions_stay, spots_count, stays_within}
use Rattle.rs_search.proofs.itself.lead_to_owing.Goals as goal

pub set_nexts-requires : goal.set_nexts-requires
set_nexts-requires c = record { here = stays_within c.args.nodes.now.items c.owe.new.nodes.items c.args.number c.in_ok-n.ensures.longer c.requires.here }

pub returns-clause-leads : goal.returns-clause-leads
returns-clause-leads c =
    let e = c.in_ok-n.ensures in
    let old = c.args.nodes.now.items in
    let new = c.owe.new.nodes.items in
    let y : Spot = owing_receive (even c.args.state) c.args.peer c.args.arm in
    leads_one old new c.set_nexts.new.nodes.items c.args.number c.in_ok-n.n c.of_one.result y e.longer
    (named_new (spots_of old) (spots_of new) y c.in_ok-n.n (λ a. (let q : y.pending ≡ [] = c.requires.fresh y a refl in cc q)) e.added (e.number ∙ sym (spots_count old))) c.of_one.ensures
    c.set_nexts.ensures

pub returns-clause-positions : goal.returns-clause-positions
returns-clause-positions c = λ places states q.
    let e = c.in_ok-n.ensures in
    let old = c.args.nodes.now.items in
    let new = c.owe.new.nodes.items in
    let y : Spot = owing_receive (even c.args.state) c.args.peer c.args.arm in
    positions_stay new c.set_nexts.new.nodes.items c.args.number c.of_one.result places states c.set_nexts.ensures record {
      bounded = (let n = spots_count new in let b = e.bounded in omega arith);
      placed = placed_owing (spots_of old) (spots_of new) places y e.added (λ z. absurd (cc (z))) q.placed;
      size = q.size;
    }
