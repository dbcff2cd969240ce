use Rattle.std.proofs.Common.{arith, inl, inr, ◌≡◌, ◌<◌, ℕ, slice_index_or, subst, sym}
use Rattle.std.proofs.lemmas.Bool.{cases_lt}
use Rattle.rs_graph.proofs.Buckets.{got, place_in}
use Rattle.rs_graph.proofs.Growth.{at_in, at_short}
use Rattle.rs_graph.proofs.Ranking.{topped_on, topped_all}
use Rattle.rs_search.proofs.forward.rank_behind.Goals as goal

pub rank-requires : goal.rank-requires
rank-requires c = c.requires.within (slice_index_or c.args.row.now c.loop-i.i 0) (place_in c.args.row.now c.loop-i.i c.loop-i-test.true)

pub loop-i-preserved : goal.loop-i-preserved
loop-i-preserved c =
    let n = slice_index_or c.args.row.now c.loop-i.i 0 in
    let w = c.requires.within n (place_in c.args.row.now c.loop-i.i c.loop-i-test.true) in
    let ne = c.if-next-number.false in
    let far : c.args.number < n = grind arith in
    let l = c.requires.low n far w in
    let m = topped_on c.args.row.now c.args.table.now.ranks c.loop-i.rank c.loop-i.i c.loop-i.invariant.0 in
    let b = c.loop-i.invariant.1 in
    let r : slice_index_or c.args.table.now.ranks n 0 ≡ c.rank.result = got c.args.table.now.ranks n c.rank.result 0 c.rank.ensures in
    rw (c.max-rank.ensures, sym r) (
      m,
      omega arith,
      (let t = c.loop-i-test.true in omega arith),
      λ k lt. elim (cases_lt k c.loop-i.i) [
        | inl a ↦ c.loop-i.invariant.3 k a
        | inr a ↦ (let e : c.loop-i.i ≡ k = omega arith in subst (λ (z : ℕ). c.args.number < slice_index_or c.args.row.now z 0) e far)
      ],
    )

pub returns-clause-fits : goal.returns-clause-fits
returns-clause-fits c = topped_all c.args.row.now c.args.table.now.ranks c.loop-i.rank c.loop-i.i (grind arith) c.loop-i.invariant.0 (λ k lt. let a = c.loop-i.invariant.2 in omega arith)

pub returns-clause-on : goal.returns-clause-on
returns-clause-on c = λ j m.
    let i = at_in c.args.row.now j m in
    let s = at_short c.args.row.now i.0 j i.1 in
    let lt : i.0 < c.loop-i.i = grind arith in
    subst (λ (z : ℕ). c.args.number < z) (got c.args.row.now i.0 j 0 i.1) (c.loop-i.invariant.3 i.0 lt)
