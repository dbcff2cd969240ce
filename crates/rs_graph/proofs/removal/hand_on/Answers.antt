use Rattle.std.proofs.Common.{arith, ◌+◌, [], List, slice_index_or, subst, drop}
use Rattle.rs_graph.specs.Removing.{Going, Rest}
use Rattle.rs_graph.specs.declared.graph.Move.{Move}
use Rattle.rs_graph.proofs.Removed.{reads_self, index_at, starts, read_move, row_on, got_none, row_done}
use Rattle.rs_graph.proofs.removal.hand_on.Goals as goal

pub loop-m-init : goal.loop-m-init
loop-m-init g c =
    let is = reads_self c.args.order.now.items c.args.told c.index-node.result.now c.requires.present c.index-node.ensures in (
      omega arith,
      omega arith,
      is,
      starts c.args.graph.now.outs c.args.graph.now.intos c.args.lost.now.items c.args.current.now.items c.args.order.now.items c.args.told c.index-node.result.now
          c.requires.into is c.requires.going,
      λ j x h. h,
    )

pub move_into-requires : goal.move_into-requires
move_into-requires g c = (c.loop-m.invariant.3.removed c.args.told c.index-node.result.now c.loop-m.invariant.2).0

pub lose-requires-clause-node : goal.lose-requires-clause-node
lose-requires-clause-node g c =
    (read_move c.args.graph.now.outs c.args.graph.now.intos c.loop-m.lost.items c.loop-m.current.items c.loop-m.order.items
    (Rest c.args.told (drop c.loop-m.nth
    (slice_index_or c.args.graph.now.intos c.index-node.result.now []))) c.index-node.result.now c.loop-m.nth c.in-Some.m c.requires.into c.in-Some.ensures.value c.loop-m.invariant.3).1

pub lose-requires-clause-place : goal.lose-requires-clause-place
lose-requires-clause-place g c =
    (read_move c.args.graph.now.outs c.args.graph.now.intos c.loop-m.lost.items c.loop-m.current.items c.loop-m.order.items
    (Rest c.args.told (drop c.loop-m.nth
    (slice_index_or c.args.graph.now.intos c.index-node.result.now []))) c.index-node.result.now c.loop-m.nth c.in-Some.m c.requires.into c.in-Some.ensures.value c.loop-m.invariant.3).2

pub loop-m-smaller : goal.loop-m-smaller
loop-m-smaller g c =
    let a = (read_move c.args.graph.now.outs c.args.graph.now.intos c.loop-m.lost.items c.loop-m.current.items c.loop-m.order.items
    (Rest c.args.told (drop c.loop-m.nth
    (slice_index_or c.args.graph.now.intos c.index-node.result.now []))) c.index-node.result.now c.loop-m.nth c.in-Some.m c.requires.into c.in-Some.ensures.value c.loop-m.invariant.3).3 in omega arith

pub loop-m-preserved : goal.loop-m-preserved
loop-m-preserved g c =
    let i = c.loop-m.invariant in
    let row : List Move = slice_index_or c.args.graph.now.intos c.index-node.result.now [] in
    let r = read_move c.args.graph.now.outs c.args.graph.now.intos c.loop-m.lost.items c.loop-m.current.items c.loop-m.order.items
    (Rest c.args.told (drop c.loop-m.nth
    (slice_index_or c.args.graph.now.intos c.index-node.result.now []))) c.index-node.result.now c.loop-m.nth c.in-Some.m c.requires.into c.in-Some.ensures.value c.loop-m.invariant.3 in
    let a = r.3 in
    let e = c.in_ok-lose.ensures in
    let going = subst (λ (z : List Move). Going c.args.graph.now.outs c.loop-m.lost.items c.loop-m.current.items c.loop-m.order.items (Rest c.args.told z))
    (row_on (slice_index_or c.args.graph.now.intos c.index-node.result.now []) c.loop-m.nth c.in-Some.m c.in-Some.ensures.value) i.3 in (
      omega arith,
      omega (arith, c.move_into.ensures.step),
      e.order c.args.told c.index-node.result.now i.2,
      e.keeps c.args.graph.now.outs c.args.told c.index-node.result.now (drop (c.loop-m.nth + 1) (slice_index_or c.args.graph.now.intos c.index-node.result.now [])) i.2 r.0 going,
      λ j x h. e.order j x (i.4 j x h),
    )

pub returns-clause-going : goal.returns-clause-going
returns-clause-going g c =
    row_done c.args.graph.now.outs c.loop-m.lost.items c.loop-m.current.items c.loop-m.order.items c.args.told c.loop-m.nth (slice_index_or c.args.graph.now.intos c.index-node.result.now [])
    (got_none (slice_index_or c.args.graph.now.intos c.index-node.result.now []) c.loop-m.nth c.move_into.result c.move_into.ensures.value
    (λ m e. absurd (c.in_default.not-Some m e))) c.loop-m.invariant.3

pub returns-clause-steps : goal.returns-clause-steps
returns-clause-steps g c =
    let n = got_none (slice_index_or c.args.graph.now.intos c.index-node.result.now []) c.loop-m.nth c.move_into.result c.move_into.ensures.value (λ m e. absurd (c.in_default.not-Some m e)) in
    let e = index_at c.args.order.now.items c.args.told c.index-node.result.now c.requires.present c.index-node.ensures in
    let i = c.loop-m.invariant in
    let a = i.0 in let b = i.1 in
    rw e (omega (arith, c.move_into.ensures.step))
