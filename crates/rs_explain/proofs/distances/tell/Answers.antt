use Rattle.std.proofs.Common.{arith, ◌+◌, [], ℕ, slice_index_or, sym, subst}
use Rattle.rs_graph.proofs.Growth.{at_short, in_at}
use Rattle.rs_explain.specs.Distances.{IsNoted}
use Rattle.rs_explain.proofs.Spreading.{distance_few, leads_source, none_by, note_on, pair_read, rows_most, tell_ends}
use Rattle.rs_explain.proofs.distances.tell.Goals as goal

pub overflow_add-distance : goal.overflow_add-distance
overflow_add-distance g c =
    let i = c.loop-source.invariant.0 in
    let k = distance_few c.args.graph.now.outs c.args.inside.now c.args.ends.now c.loop-source.far.items c.loop-source.queue.items c.args.told c.index-node.result.now c.in-Some.distance i.spread i.next i.distance_is in
    grind (arith, k, c.requires.nodes)

pub note-requires-clause-present : goal.note-requires-clause-present
note-requires-clause-present g c =
    let row = slice_index_or c.args.graph.now.intos c.index-node.result.now [] in
    let m = pair_read row c.loop-source.nth c.in-Some-into.source c.in-Some-into.field-0-1 c.in-Some-into.ensures.value in
    let l = c.requires.into.from m.0 c.index-node.result.now (in_at row c.loop-source.nth m.0 m.1) in
    let s = leads_source c.args.graph.now.outs m.0.node m.0.place c.index-node.result.now l in
    let e = c.requires.inside in
    let q = m.2 in omega arith

pub overflow_add-nth : goal.overflow_add-nth
overflow_add-nth g c =
    let row = slice_index_or c.args.graph.now.intos c.index-node.result.now [] in
    let m = pair_read row c.loop-source.nth c.in-Some-into.source c.in-Some-into.field-0-1 c.in-Some-into.ensures.value in
    let k = at_short row c.loop-source.nth m.0 m.1 in
    let r = rows_most c.args.graph.now.intos c.index-node.result.now in
    let e = c.requires.into.count in
    grind (arith, k, r, e, c.requires.edges)

pub loop-source-smaller : goal.loop-source-smaller
loop-source-smaller g c =
    let row = slice_index_or c.args.graph.now.intos c.index-node.result.now [] in
    let m = pair_read row c.loop-source.nth c.in-Some-into.source c.in-Some-into.field-0-1 c.in-Some-into.ensures.value in
    let k = at_short row c.loop-source.nth m.0 m.1 in omega arith

pub loop-source-preserved : goal.loop-source-preserved
loop-source-preserved g c =
    let row = slice_index_or c.args.graph.now.intos c.index-node.result.now [] in
    let m = pair_read row c.loop-source.nth c.in-Some-into.source c.in-Some-into.field-0-1 c.in-Some-into.ensures.value in
    let l = c.requires.into.from m.0 c.index-node.result.now (in_at row c.loop-source.nth m.0 m.1) in
    let k = at_short row c.loop-source.nth m.0 m.1 in (
      note_on c.args.graph.now.outs c.args.inside.now c.args.ends.now c.loop-source.far.items c.loop-source.queue.items c.note.new.far.items c.note.new.queue.items c.args.told c.index-node.result.now
          c.in-Some.distance row c.loop-source.nth m.0 c.loop-source.invariant.0 m.1 (leads_source c.args.graph.now.outs m.0.node m.0.place c.index-node.result.now l) l
          (subst (λ (z : ℕ). IsNoted c.args.inside.now z (c.in-Some.distance + 1) c.loop-source.far.items c.loop-source.queue.items c.note.new.far.items c.note.new.queue.items) (sym m.2) c.in_ok-note.ensures),
      omega arith,
    )

pub returns : goal.returns
returns g c =
    tell_ends c.args.graph.now.outs c.args.graph.now.intos c.args.inside.now c.args.ends.now c.loop-source.far.items c.loop-source.queue.items c.args.told c.index-node.result.now c.in-Some.distance
    c.loop-source.nth c.requires.into c.loop-source.invariant.0
    (none_by (slice_index_or c.args.graph.now.intos c.index-node.result.now []) c.loop-source.nth c.into.result c.into.ensures.value (λ n p e. absurd (c.in_default.not-Some (n, p) e)))
