use Rattle.std.proofs.Common.{arith, ◌<◌, ap, refl, length, slice_index_or}
use Rattle.std.proofs.lemmas.Bool.{false≢true}
use Rattle.rs_model.specs.Data.{Machine_data}
use Rattle.rs_model.specs.declared.graph.Arm.{Arm}
use Rattle.rs_model.specs.declared.values.Sort.TheVariants as sort
use Rattle.rs_graph.proofs.Growth.{in_at, reads_at}
use Rattle.rs_improve.proofs.Exchanging.{no_sends, puts_at, swappable_leads, taken_some, taken_within}
use Rattle.rs_improve.proofs.swaps.exchanges.exchange_of.Goals as goal

pub index-requires : goal.index-requires
index-requires c =
    let d : Arm = record { label = record { 0 = 0 }; sort = sort.Unit; next = 0 } in
    let a : Arm = slice_index_or c.args.takes.now 0 d in
    let f = reads_at c.args.takes.now 0 a d (taken_some c.args.machine.now c.args.state c.args.from c.args.takes.now c.requires.proper c.requires.stands) refl in
    let lt : a.next < length c.args.machine.now.states = taken_within c.args.machine.now c.args.state c.args.from c.args.takes.now c.requires.proper c.requires.stands a (in_at c.args.takes.now 0 a f) in
    let e = ap (λ (z : Machine_data). length z.states) c.machine.view_is in grind (arith, lt, e)

pub all_lead_to_sends-requires : goal.all_lead_to_sends-requires
all_lead_to_sends-requires c = record { within = taken_within c.args.machine.now c.args.state c.args.from c.args.takes.now c.requires.proper c.requires.stands }

pub returns-then-all_lead_to_sends : goal.returns-then-all_lead_to_sends
returns-then-all_lead_to_sends c =
    let d : Arm = record { label = record { 0 = 0 }; sort = sort.Unit; next = 0 } in
    let a : Arm = slice_index_or c.args.takes.now 0 d in
    let f = reads_at c.args.takes.now 0 a d (taken_some c.args.machine.now c.args.state c.args.from c.args.takes.now c.requires.proper c.requires.stands) refl in
    let lt = taken_within c.args.machine.now c.args.state c.args.from c.args.takes.now c.requires.proper c.requires.stands a (in_at c.args.takes.now 0 a f) in
    let p = puts_at c.args.machine.now c.machine.inside.states.items a.next c.index.result.now c.in-Puts.peer c.in-Puts.arms c.as_slice-puts.result.now
    (ap (λ (z : Machine_data). z.states) c.machine.view_is) lt c.index.ensures c.in-Puts.is c.as_slice-puts.ensures in
    (record { stands = c.requires.stands; first = a; begins = f; sends = p; each = c.if-all_lead_to_sends.ensures.0 refl }, refl)

pub returns-else-all_lead_to_sends : goal.returns-else-all_lead_to_sends
returns-else-all_lead_to_sends c = λ s.
    let d : Arm = record { label = record { 0 = 0 }; sort = sort.Unit; next = 0 } in
    let a : Arm = slice_index_or c.args.takes.now 0 d in
    let f = reads_at c.args.takes.now 0 a d (taken_some c.args.machine.now c.args.state c.args.from c.args.takes.now c.requires.proper c.requires.stands) refl in
    let lt = taken_within c.args.machine.now c.args.state c.args.from c.args.takes.now c.requires.proper c.requires.stands a (in_at c.args.takes.now 0 a f) in
    let p = puts_at c.args.machine.now c.machine.inside.states.items a.next c.index.result.now c.in-Puts.peer c.in-Puts.arms c.as_slice-puts.result.now
    (ap (λ (z : Machine_data). z.states) c.machine.view_is) lt c.index.ensures c.in-Puts.is c.as_slice-puts.ensures in
    absurd (false≢true (c.if-all_lead_to_sends.ensures.1 (swappable_leads c.args.machine.now c.args.state c.args.from c.args.takes.now a c.in-Puts.peer c.as_slice-puts.result.now c.requires.stands f p s)))

pub returns-in_default : goal.returns-in_default
returns-in_default c =
    let d : Arm = record { label = record { 0 = 0 }; sort = sort.Unit; next = 0 } in
    let a : Arm = slice_index_or c.args.takes.now 0 d in
    let f = reads_at c.args.takes.now 0 a d (taken_some c.args.machine.now c.args.state c.args.from c.args.takes.now c.requires.proper c.requires.stands) refl in
    let lt = taken_within c.args.machine.now c.args.state c.args.from c.args.takes.now c.requires.proper c.requires.stands a (in_at c.args.takes.now 0 a f) in
    no_sends c.args.machine.now c.machine.inside.states.items c.args.state c.args.from c.args.takes.now a c.index.result.now c.requires.stands f (ap (λ (z : Machine_data). z.states) c.machine.view_is) lt
    c.index.ensures c.in_default.not-Puts
