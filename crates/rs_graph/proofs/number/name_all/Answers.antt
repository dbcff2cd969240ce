use Rattle.std.proofs.Common.{arith, slice_index_or, refl, ◌∙◌}
use Rattle.rs_graph.proofs.Buckets.{place_in}
use Rattle.rs_graph.proofs.Growth.{named_none, named_on, reads_at}
use Rattle.rs_graph.proofs.number.name_all.Goals as goal

pub loop-i-init : goal.loop-i-init
loop-i-init c = (rw c.new-numbers.ensures (named_none c.args.items.now.items), c.requires.placed, omega arith)

pub number_of-requires-clause-present : goal.number_of-requires-clause-present
number_of-requires-clause-present c =
    let w = c.requires.within (slice_index_or c.args.ys.now c.loop-i.i 0) (place_in c.args.ys.now c.loop-i.i c.loop-i-test.true) in let s = c.loop-i.invariant.2 in omega arith

pub loop-i-preserved : goal.loop-i-preserved
loop-i-preserved c =
    let e = c.in_ok-n.ensures in
    let i = c.loop-i.invariant in
    let h = reads_at c.args.ys.now c.loop-i.i (slice_index_or c.args.ys.now c.loop-i.i 0) 0 c.loop-i-test.true refl in
    let n = named_on c.args.items.now.items c.args.ys.now c.loop-i.items.items c.number_of.new.items.items c.loop-i.i
    (slice_index_or c.args.ys.now c.loop-i.i 0) c.in_ok-n.n c.loop-i.numbers _ h i.0 e.named c.in_ok-push.ensures.ok in
    (n, e.placed, e.size ∙ i.2)
