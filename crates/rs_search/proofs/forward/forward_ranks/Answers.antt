use Rattle.std.proofs.Common.{arith, ◌≡◌, ◌-◌, [], ℕ, List, length, slice_index_or, subst, refl, ap}
use Rattle.rs_graph.specs.Lists.{Among}
use Rattle.rs_search.proofs.Rising.{forward_none, forward_on}
use Rattle.rs_search.proofs.forward.forward_ranks.Goals as goal

pub loop-number-init : goal.loop-number-init
loop-number-init c =
    let k = c.known-number.ensures in
    let e : length c.args.table.now.ranks ≡ length c.args.table.now.rows = (let r = k.ranks in let n = c.requires.known in omega arith) in
    rw k.count (forward_none c.args.keeps.now c.args.table.now.rows c.args.table.now.ranks e, omega arith, refl, refl)

pub rank_of-requires-clause-within : goal.rank_of-requires-clause-within
rank_of-requires-clause-within c = λ j m.
    let i = c.loop-number.invariant in
    let n = c.loop-number.number - 1 in
    let w = c.requires.within n j (subst (λ (z : List (List ℕ)). Among (slice_index_or z n []) j) i.2 m) in
    let s = i.0.size in
    let l = ap (λ (z : List (List ℕ)). length z) i.2 in
    omega arith

pub loop-number-preserved : goal.loop-number-preserved
loop-number-preserved c =
    let i = c.loop-number.invariant in
    let t = c.loop-number.table in
    let some = c.loop-number-test.true in
    let e = c.in-Some.ensures in
    let f = forward_on c.args.keeps.now t.rows t.ranks c.loop-number.number (c.loop-number.number - 1) c.in-Some.rank (omega arith) i.1 i.0 e.fits e.on e.low in
    rw (c.set_rank.ensures.rows, c.set_rank.ensures.ranks, c.set_rank.ensures.spots) (f, (let b = i.1 in omega arith), i.2, i.3)
