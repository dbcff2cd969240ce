use Rattle.std.proofs.Common.{◌≡◌, ◌∙◌, List, OnOk, map, slice_get, Some, length, ap, subst, refl}
use Rattle.std.proofs.lemmas.Result.{on_ok_weaker}
use Rattle.rs_model.specs.declared.graph.Arm.{Arm}
use Rattle.rs_model.specs.declared.machines.State.TheVariants.{Done, Puts, Takes}
use Rattle.rs_derive.specs.Moves.{Spot, owing_receive}
use Rattle.rs_graph.proofs.Growth.{named_none}
use Rattle.rs_search.specs.Itself.{even, nexts_itself}
use Rattle.rs_search.specs.Longer.{LeadsTo}
use Rattle.rs_search.specs.Spots.{spots_of}
use Rattle.rs_search.proofs.Alike.{nexts_even, state_at}
use Rattle.rs_search.proofs.Lengthening.{longer_same, positions_stay}
use Rattle.rs_search.proofs.itself.lead_even.Goals as goal

pub returns-in-Done-clause-leads : goal.returns-in-Done-clause-leads
returns-in-Done-clause-leads c =
    let m = c.args.machine.now in let s = c.args.state in let old = c.args.nodes.now.items in
    let st : slice_get m.states s ≡ Some Done = state_at m _ s c.index.result.now Done c.machine.view_is c.requires.present c.index.ensures c.in-Done.is in
    subst (λ (z : List Spot). LeadsTo old c.args.number z c.set_nexts.new.nodes.items) (nexts_even m (even s) Done refl st)
    record { grown = old; longer = longer_same old; row = c.new.result; named = rw c.new.ensures (named_none (spots_of old)); got = c.set_nexts.ensures }

pub returns-in-Done-clause-positions : goal.returns-in-Done-clause-positions
returns-in-Done-clause-positions c =
    positions_stay c.args.nodes.now.items c.set_nexts.new.nodes.items c.args.number c.new.result c.args.places.now.items (length c.args.machine.now.states) c.set_nexts.ensures c.requires.positions

pub returns-in-Puts-clause-leads : goal.returns-in-Puts-clause-leads
returns-in-Puts-clause-leads c =
    let m = c.args.machine.now in let s = c.args.state in
    let st : slice_get m.states s ≡ Some (Puts c.in-Puts.peer c.in-Puts.arms) =
    state_at m _ s c.index.result.now (Puts c.in-Puts.peer c.in-Puts.arms) c.machine.view_is c.requires.present c.index.ensures c.in-Puts.is in
    let q : map (λ (a : Arm). even a.next) c.as_slice.result.now ≡ nexts_itself m (even s) =
    ap (λ (z : List Arm). map (λ (a : Arm). even a.next) z) c.as_slice.ensures ∙ nexts_even m (even s) (Puts c.in-Puts.peer c.in-Puts.arms) refl st in
    subst (λ (z : List Spot). OnOk c.lead_to_all.result (LeadsTo c.args.nodes.now.items c.args.number z c.lead_to_all.new.nodes.items)) q c.lead_to_all.ensures.leads

pub returns-in-Takes-clause-leads : goal.returns-in-Takes-clause-leads
returns-in-Takes-clause-leads c =
    let m = c.args.machine.now in let s = c.args.state in
    let st : slice_get m.states s ≡ Some (Takes c.in-Takes.peer c.in-Takes.arms) =
    state_at m _ s c.index.result.now (Takes c.in-Takes.peer c.in-Takes.arms) c.machine.view_is c.requires.present c.index.ensures c.in-Takes.is in
    let q : map (λ (b : Arm). owing_receive (even s) c.in-Takes.peer b) c.as_slice-in-Takes.result.now ≡ nexts_itself m (even s) =
    ap (λ (z : List Arm). map (λ (b : Arm). owing_receive (even s) c.in-Takes.peer b) z) c.as_slice-in-Takes.ensures
    ∙ nexts_even m (even s) (Takes c.in-Takes.peer c.in-Takes.arms) refl st in
    subst (λ (z : List Spot). OnOk c.lead_to_all_owing.result (LeadsTo c.args.nodes.now.items c.args.number z c.lead_to_all_owing.new.nodes.items)) q c.lead_to_all_owing.ensures.leads

pub returns-in-Takes-clause-positions : goal.returns-in-Takes-clause-positions
returns-in-Takes-clause-positions c =
    on_ok_weaker c.lead_to_all_owing.result (λ f. f c.args.places.now.items (length c.args.machine.now.states) c.requires.positions) c.lead_to_all_owing.ensures.positions
