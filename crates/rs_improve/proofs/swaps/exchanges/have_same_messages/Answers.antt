use Rattle.std.proofs.Common.{arith, ◌<◌, refl, length}
use Rattle.std.proofs.lemmas.Bool.{false≢true}
use Rattle.rs_model.specs.declared.graph.Arm.{Arm}
use Rattle.rs_model.specs.declared.values.Sort.TheVariants as sort
use Rattle.rs_improve.proofs.Exchanging.{map_same_at, map_same_next}
use Rattle.rs_improve.proofs.swaps.exchanges.have_same_messages.Goals as goal

pub returns-then-not-is_same_message : goal.returns-then-not-is_same_message
returns-then-not-is_same_message c =
    let d : Arm = record { label = record { 0 = 0 }; sort = sort.Unit; next = 0 } in (
      (λ t. absurd (false≢true t)),
      (λ h. c.if-not-is_same_message.ensures.1 (
        map_same_at (λ (a : Arm). a.label) c.args.ours.now c.args.theirs.now c.loop-i.i d d h.labels c.loop-i-test.true,
        map_same_at (λ (a : Arm). a.sort) c.args.ours.now c.args.theirs.now c.loop-i.i d d h.sorts c.loop-i-test.true,
      )),
    )

pub loop-i-preserved : goal.loop-i-preserved
loop-i-preserved c =
    let d : Arm = record { label = record { 0 = 0 }; sort = sort.Unit; next = 0 } in
    let i = c.loop-i.invariant in
    let l = i.0 in
    let lt : c.loop-i.i < length c.args.theirs.now = omega (arith, c.loop-i-test.true, l) in
    let e = c.if-not-is_same_message.ensures.0 refl in (
      i.0,
      map_same_next (λ (a : Arm). a.label) c.args.ours.now c.args.theirs.now c.loop-i.i d c.loop-i-test.true lt i.1 e.0,
      map_same_next (λ (a : Arm). a.sort) c.args.ours.now c.args.theirs.now c.loop-i.i d c.loop-i-test.true lt i.2 e.1,
    )
