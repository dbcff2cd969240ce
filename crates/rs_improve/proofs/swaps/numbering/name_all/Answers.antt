use Rattle.std.proofs.Common.{arith, refl, slice_index_or, ◌∙◌}
use Rattle.rs_graph.proofs.Growth.{in_at, named_none, named_on, reads_at}
use Rattle.rs_improve.specs.declared.swaps.SwappedState.{SwappedState}
use Rattle.rs_improve.specs.declared.swaps.SwappedState.TheVariants.{Old}
use Rattle.rs_improve.proofs.Finding.{grown_within, slot_in}
use Rattle.rs_improve.proofs.swaps.numbering.name_all.Goals as goal

pub loop-i-init : goal.loop-i-init
loop-i-init c = (rw c.new-row.ensures (named_none c.args.found.now.items.items), c.requires.bounded, c.requires.filed, refl, refl)

pub number_of-requires-clause-slot : goal.number_of-requires-clause-slot
number_of-requires-clause-slot c =
    let s : SwappedState = slice_index_or c.args.states.now c.loop-i.i (Old 0) in
    let h = reads_at c.args.states.now c.loop-i.i s (Old 0) c.loop-i-test.true refl in
    let i = c.loop-i.invariant in
    slot_in _ _ _ _ s i.3 i.4 (c.requires.slots s (in_at c.args.states.now c.loop-i.i s h))

pub returns-then-len-gt-MOST_STATES-clause-named : goal.returns-then-len-gt-MOST_STATES-clause-named
returns-then-len-gt-MOST_STATES-clause-named c =
    let s : SwappedState = slice_index_or c.args.states.now c.loop-i.i (Old 0) in
    let h = reads_at c.args.states.now c.loop-i.i s (Old 0) c.loop-i-test.true refl in (
      grown_within c.args.found.now.items.items c.args.states.now c.loop-i.found.items.items c.number_of.new.self.items.items c.loop-i.i s h c.loop-i.invariant.0.grown c.in_ok-n.ensures.named.adds,
      grind (arith, c.len.ensures, c.if-len-gt-MOST_STATES.true),
    )

pub loop-i-preserved : goal.loop-i-preserved
loop-i-preserved c =
    let s : SwappedState = slice_index_or c.args.states.now c.loop-i.i (Old 0) in
    let h = reads_at c.args.states.now c.loop-i.i s (Old 0) c.loop-i-test.true refl in
    let i = c.loop-i.invariant in
    let e = c.in_ok-n.ensures in (
      named_on c.args.found.now.items.items c.args.states.now c.loop-i.found.items.items c.number_of.new.self.items.items c.loop-i.i s c.in_ok-n.n c.loop-i.row c.push.new.self h i.0 e.named
          c.in_ok-push.ensures.ok,
      grind (arith, c.len.ensures, c.if-len-gt-MOST_STATES.false),
      e.filed,
      e.olds ∙ i.3,
      e.news ∙ i.4,
    )
