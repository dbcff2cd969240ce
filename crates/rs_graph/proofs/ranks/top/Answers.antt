use Rattle.std.proofs.Common.{arith, slice_index_or}
use Rattle.rs_graph.proofs.Buckets.{place_in}
use Rattle.rs_graph.proofs.Ranking.{topped_none, topped_on, topped_all}
use Rattle.rs_graph.proofs.ranks.top.Goals as goal

pub bounds-ranks-row : goal.bounds-ranks-row
bounds-ranks-row c = c.requires.within (slice_index_or c.args.row.now c.loop-i.i 0) (place_in c.args.row.now c.loop-i.i c.loop-i-test.true)

pub loop-i-init : goal.loop-i-init
loop-i-init c = (topped_none c.args.row.now c.args.ranks.now, omega arith, omega arith)

pub loop-i-preserved : goal.loop-i-preserved
loop-i-preserved c =
    let l = c.requires.low (slice_index_or c.args.row.now c.loop-i.i 0) (place_in c.args.row.now c.loop-i.i c.loop-i-test.true) in
    let m = topped_on c.args.row.now c.args.ranks.now c.loop-i.rank c.loop-i.i c.loop-i.invariant.0 in
    let b = c.loop-i.invariant.1 in
    rw c.max-rank.ensures (m, omega arith, (let t = c.loop-i-test.true in omega arith))

pub returns-clause-fits : goal.returns-clause-fits
returns-clause-fits c = topped_all c.args.row.now c.args.ranks.now c.loop-i.rank c.loop-i.i (grind arith) c.loop-i.invariant.0 (λ k lt. let a = c.loop-i.invariant.2 in omega arith)

pub overflow_add-ranks : goal.overflow_add-ranks
overflow_add-ranks c =
    let l = c.requires.low (slice_index_or c.args.row.now c.loop-i.i 0) (place_in c.args.row.now c.loop-i.i c.loop-i-test.true) in
    grind (arith, l, c.requires.bounded)
