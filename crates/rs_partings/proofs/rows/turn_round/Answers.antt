use Rattle.std.proofs.Common.{arith, ◌<◌, ◌≡◌, [], get_or, length}
use Rattle.rs_graph.proofs.Buckets.{the_row}
use Rattle.rs_partings.proofs.Turning.{row_below}
use Rattle.rs_partings.proofs.rows.turn_round.Goals as goal

pub add_back-requires : goal.add_back-requires
add_back-requires c =
    let lt : c.loop-number.number < length c.args.rows.now = (let t = c.loop-number-test.true in omega (arith, t)) in
    let e : c.as_slice.result.now ≡ get_or c.args.rows.now c.loop-number.number [] = the_row c.args.rows.now c.loop-number.number c.as_slice.result.now c.index-rows-number.result lt c.as_slice.ensures c.index-rows-number.is in
    row_below c.args.rows.now (length c.loop-number.back.items) c.loop-number.number c.as_slice.result.now c.requires.within c.loop-number.invariant.size e
