use Rattle.std.proofs.Common.{List, OnOk, map, ap, sym, subst, length}
use Rattle.rs_model.specs.declared.graph.Arm.{Arm}
use Rattle.rs_model.specs.declared.values.Sort.TheVariants as sort
use Rattle.rs_derive.specs.Moves.{Spot}
use Rattle.rs_search.specs.Itself.{even}
use Rattle.rs_search.specs.Longer.{LeadsTo}
use Rattle.rs_search.proofs.Alike.{arm_reads}
use Rattle.rs_search.proofs.Filing.{one_item}
use Rattle.rs_search.proofs.Lengthening.{positions_stay, stays_within}
use Rattle.rs_search.proofs.itself.lead_to_all.Goals as goal

pub lead_to_one-requires-clause-present : goal.lead_to_one-requires-clause-present
lead_to_one-requires-clause-present c = c.requires.present 0 _ (arm_reads c.args.arms.now 0 (record { label = record { 0 = 0 }; sort = sort.Unit; next = 0 }) c.in-len1.len_at_least)

pub returns-in-len1-clause-leads : goal.returns-in-len1-clause-leads
returns-in-len1-clause-leads c =
    let d : Arm = record { label = record { 0 = 0 }; sort = sort.Unit; next = 0 } in
    subst (λ (z : List Spot). OnOk c.lead_to_one.result (LeadsTo c.args.nodes.now.items c.args.number z c.lead_to_one.new.nodes.items))
    (ap (λ (z : List Arm). map (λ (a : Arm). even a.next) z) (sym (one_item c.args.arms.now d c.in-len1.len_at_least c.in-len1.len_below))) c.lead_to_one.ensures.leads

pub set_nexts-requires : goal.set_nexts-requires
set_nexts-requires c = record { here = stays_within c.args.nodes.now.items c.come_to_each.new.nodes.items c.args.number c.in_ok-row-in_default.ensures.longer c.requires.here }

pub returns-in_ok-row-in_default-clause-leads : goal.returns-in_ok-row-in_default-clause-leads
returns-in_ok-row-in_default-clause-leads c =
    let e = c.in_ok-row-in_default.ensures in
    record { grown = c.come_to_each.new.nodes.items; longer = e.longer; row = c.in_ok-row-in_default.row; named = e.named; got = c.set_nexts.ensures }

pub returns-in_ok-row-in_default-clause-positions : goal.returns-in_ok-row-in_default-clause-positions
returns-in_ok-row-in_default-clause-positions c =
    positions_stay c.come_to_each.new.nodes.items c.set_nexts.new.nodes.items c.args.number c.in_ok-row-in_default.row c.come_to_each.new.places.items (length c.args.places.now.items)
    c.set_nexts.ensures c.in_ok-row-in_default.ensures.positions
