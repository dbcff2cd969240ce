use Rattle.std.proofs.Common.{rules, arith, ◌≡◌, [], ℕ, List, length, slice_index_or, slice_get, Some, subst, refl, ap}
use Rattle.rs_graph.specs.Lists.{Among}
use Rattle.rs_graph.specs.RanksSoFar.{RankFits}
use Rattle.rs_graph.proofs.Buckets.{the_row}
use Rattle.rs_graph.proofs.Growth.{reads_at}
use Rattle.rs_graph.proofs.Ranking.{ranked_none, ranked_on}
use Rattle.rs_graph.proofs.ranks.rank_all.Goals as goal

pub loop-i-init : goal.loop-i-init
loop-i-init c = ranked_none c.args.rows.now c.args.order.now c.in_ok-ranks.ranks.items (search (rules, c.in_ok-ranks.ensures.len))

pub top-rank-requires-clause-within : goal.top-rank-requires-clause-within
top-rank-requires-clause-within c = λ j h.
    let is : slice_get c.args.order.now c.loop-i.i ≡ Some (slice_index_or c.args.order.now c.loop-i.i 0)
    = reads_at c.args.order.now c.loop-i.i (slice_index_or c.args.order.now c.loop-i.i 0) 0 c.loop-i-test.true refl in
    let e = the_row c.args.rows.now (slice_index_or c.args.order.now c.loop-i.i 0) c.as_slice.result.now c.index-rows-n.result
    (c.requires.ordered.within c.loop-i.i (slice_index_or c.args.order.now c.loop-i.i 0) is) c.as_slice.ensures c.index-rows-n.is in
    let b = c.requires.ordered.ends c.loop-i.i (slice_index_or c.args.order.now c.loop-i.i 0) j is (subst (λ (z : List ℕ). Among z j) e h) in
    let w = c.requires.ordered.within b.index j b.stands in
    let z = c.loop-i.invariant.size in
    let l : length c.as_slice-in-loop-i.result.now ≡ length c.loop-i.ranks.items = ap (λ (y : List ℕ). length y) c.as_slice-in-loop-i.ensures.value in
    omega arith

pub top-rank-requires-clause-low : goal.top-rank-requires-clause-low
top-rank-requires-clause-low c = λ j h.
    let is : slice_get c.args.order.now c.loop-i.i ≡ Some (slice_index_or c.args.order.now c.loop-i.i 0)
    = reads_at c.args.order.now c.loop-i.i (slice_index_or c.args.order.now c.loop-i.i 0) 0 c.loop-i-test.true refl in
    let e = the_row c.args.rows.now (slice_index_or c.args.order.now c.loop-i.i 0) c.as_slice.result.now c.index-rows-n.result
    (c.requires.ordered.within c.loop-i.i (slice_index_or c.args.order.now c.loop-i.i 0) is) c.as_slice.ensures c.index-rows-n.is in
    let b = c.requires.ordered.ends c.loop-i.i (slice_index_or c.args.order.now c.loop-i.i 0) j is (subst (λ (z : List ℕ). Among z j) e h) in
    let w = c.loop-i.invariant.low b.index j b.early b.stands in
    let a = b.early in
    let l : slice_index_or c.as_slice-in-loop-i.result.now j 0 ≡ slice_index_or c.loop-i.ranks.items j 0 = ap (λ (y : List ℕ). slice_index_or y j 0) c.as_slice-in-loop-i.ensures.value in
    omega arith

pub index_mut-requires : goal.index_mut-requires
index_mut-requires c =
    let is : slice_get c.args.order.now c.loop-i.i ≡ Some (slice_index_or c.args.order.now c.loop-i.i 0)
    = reads_at c.args.order.now c.loop-i.i (slice_index_or c.args.order.now c.loop-i.i 0) 0 c.loop-i-test.true refl in
    let w = c.requires.ordered.within c.loop-i.i (slice_index_or c.args.order.now c.loop-i.i 0) is in
    let z = c.loop-i.invariant.size in
    omega arith

pub loop-i-preserved : goal.loop-i-preserved
loop-i-preserved c =
    let is : slice_get c.args.order.now c.loop-i.i ≡ Some (slice_index_or c.args.order.now c.loop-i.i 0)
    = reads_at c.args.order.now c.loop-i.i (slice_index_or c.args.order.now c.loop-i.i 0) 0 c.loop-i-test.true refl in
    let e = the_row c.args.rows.now (slice_index_or c.args.order.now c.loop-i.i 0) c.as_slice.result.now c.index-rows-n.result
    (c.requires.ordered.within c.loop-i.i (slice_index_or c.args.order.now c.loop-i.i 0) is) c.as_slice.ensures c.index-rows-n.is in
    let f : RankFits (slice_index_or c.args.rows.now (slice_index_or c.args.order.now c.loop-i.i 0) []) c.loop-i.ranks.items c.top-rank.result =
    subst (λ (y : List ℕ). RankFits (slice_index_or c.args.rows.now (slice_index_or c.args.order.now c.loop-i.i 0) []) y c.top-rank.result) c.as_slice-in-loop-i.ensures.value
    (subst (λ (y : List ℕ). RankFits y c.as_slice-in-loop-i.result.now c.top-rank.result) e c.top-rank.ensures.fits) in
    ranked_on c.args.rows.now c.args.order.now c.loop-i.ranks.items c.loop-i.i
    (slice_index_or c.args.order.now c.loop-i.i 0) c.top-rank.result c.requires.ordered is c.loop-i.invariant f c.top-rank.ensures.low
