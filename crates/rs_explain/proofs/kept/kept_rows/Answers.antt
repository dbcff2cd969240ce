use Rattle.std.proofs.Common.{slice_index_or, false, refl, sym, arith}
use Rattle.rs_graph.proofs.Buckets.{place_in}
use Rattle.rs_graph.proofs.Growth.{reads_at}
use Rattle.rs_search.proofs.Noding.{kept_none, kept_on}
use Rattle.rs_explain.proofs.kept.kept_rows.Goals as goal

pub loop-i-init : goal.loop-i-init
loop-i-init c = rw c.new-kept.ensures.items (kept_none c.args.keeps.now c.args.items.now c.args.nexts.now)

pub bounds-keeps-items : goal.bounds-keeps-items
bounds-keeps-items c = c.requires.within (slice_index_or c.args.items.now c.loop-i.i 0) (place_in c.args.items.now c.loop-i.i c.loop-i-test.true)

pub loop-i-preserved : goal.loop-i-preserved
loop-i-preserved c =
    kept_on c.args.keeps.now c.args.items.now c.args.nexts.now c.loop-i.i (slice_index_or c.args.items.now c.loop-i.i 0)
    (slice_index_or c.args.keeps.now (slice_index_or c.args.items.now c.loop-i.i 0) false)
    c.index-nexts-i.result c.in_ok-kept_row.field-0 c.loop-i.kept.items c.push.new.self.items c.loop-i.invariant
    (reads_at c.args.items.now c.loop-i.i (slice_index_or c.args.items.now c.loop-i.i 0) 0 c.loop-i-test.true refl)
    (reads_at c.args.nexts.now c.loop-i.i c.index-nexts-i.result c.index-nexts-i.result (let a = c.requires.nexts in let b = c.loop-i-test.true in omega arith) (sym c.index-nexts-i.is))
    refl c.in_ok-kept_row.ensures c.in_ok-push.ensures.items
