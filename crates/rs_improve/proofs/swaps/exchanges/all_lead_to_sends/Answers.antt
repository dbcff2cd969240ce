use Rattle.std.proofs.Common.{inl, inr, refl, slice_index_or, subst, List, take}
use Rattle.std.proofs.lemmas.Bool.{false≢true}
use Rattle.rs_model.specs.declared.graph.Arm.{Arm}
use Rattle.rs_model.specs.declared.values.Sort.TheVariants as sort
use Rattle.rs_graph.specs.Lists.{Among}
use Rattle.rs_graph.proofs.Growth.{has_push, in_at, reads_at, take_on}
use Rattle.rs_improve.specs.Swaps.{LeadsToSends}
use Rattle.rs_improve.proofs.swaps.exchanges.all_lead_to_sends.Goals as goal

pub leads_to_sends-requires : goal.leads_to_sends-requires
leads_to_sends-requires c =
    let d : Arm = record { label = record { 0 = 0 }; sort = sort.Unit; next = 0 } in
    let a : Arm = slice_index_or c.args.takes.now c.loop-i.i d in
    record { within = c.requires.within a (in_at c.args.takes.now c.loop-i.i a (reads_at c.args.takes.now c.loop-i.i a d c.loop-i-test.true refl)) }

pub returns-then-not-leads_to_sends : goal.returns-then-not-leads_to_sends
returns-then-not-leads_to_sends c =
    let d : Arm = record { label = record { 0 = 0 }; sort = sort.Unit; next = 0 } in
    let a : Arm = slice_index_or c.args.takes.now c.loop-i.i d in
    ((λ t. absurd (false≢true t)), (λ all. c.if-not-leads_to_sends.ensures.1 (all a (in_at c.args.takes.now c.loop-i.i a (reads_at c.args.takes.now c.loop-i.i a d c.loop-i-test.true refl)))))

pub loop-i-preserved : goal.loop-i-preserved
loop-i-preserved c =
    let d : Arm = record { label = record { 0 = 0 }; sort = sort.Unit; next = 0 } in
    let a : Arm = slice_index_or c.args.takes.now c.loop-i.i d in
    let e = take_on c.args.takes.now c.loop-i.i a (reads_at c.args.takes.now c.loop-i.i a d c.loop-i-test.true refl) in
    λ arm m. elim (has_push (take c.loop-i.i c.args.takes.now) a arm (subst (λ (z : List Arm). Among z arm) e m)) [
      | inl h ↦ c.loop-i.invariant arm h
      | inr h ↦ subst (λ (z : Arm). LeadsToSends c.args.machine.now c.args.to c.args.puts.now z) h (c.if-not-leads_to_sends.ensures.0 refl)
    ]
