use Rattle.std.proofs.Common.{◌+◌, Bool, length, slice_index_or, sym, subst}
use Rattle.rs_explain.proofs.Lowering.{bounds_lowered, row_known, visited_low, visited_on}
use Rattle.rs_explain.proofs.Nearest.{at_place}
use Rattle.rs_explain.specs.Deaths.{IsLowered, IsVisited, lowers}
use Rattle.rs_explain.proofs.deaths.lower_all.Goals.{then-lower, else-lower}
use Rattle.rs_explain.proofs.deaths.lower_all.Goals as goal

pub lower-requires-clause-within : goal.lower-requires-clause-within
lower-requires-clause-within c = λ r m.
    row_known c.args.sub.now c.args.above.now c.args.bound c.args.found.now c.requires.found (slice_index_or c.args.order.now c.loop-i.i 0) r (length c.loop-i.far.items) c.loop-i.invariant.0.size m

pub loop-i-preserved : goal.loop-i-preserved
loop-i-preserved c =
    let n = slice_index_or c.args.order.now c.loop-i.i 0 in
    let at = at_place c.args.order.now c.loop-i.i c.loop-i-test.true in (
      bounds_lowered c.args.sub.now c.args.above.now c.args.bound c.args.found.now c.args.order.now c.loop-i.far.items c.lower.new.far.items n c.lower.result c.requires.found c.loop-i.invariant.0
          (c.requires.order.within c.loop-i.i n at) c.lower.ensures,
      elim c.if-lower.branch [
        | then-lower w ↦ subst (λ (z : Bool). IsVisited c.args.found.now.anys.items c.args.found.now.table.rows c.args.order.now c.args.far.now.items (c.loop-i.i + 1) c.lower.new.far.items z) (sym w.lowered-is)
            (visited_low c.args.found.now.anys.items c.args.found.now.table.rows c.args.order.now c.args.far.now.items c.loop-i.i c.loop-i.far.items c.lower.new.far.items c.loop-i.lowered n
            c.loop-i.invariant.1 (subst (λ (z : Bool). IsLowered c.loop-i.far.items n (lowers c.args.found.now.anys.items c.args.found.now.table.rows c.loop-i.far.items n) c.lower.new.far.items z) w.if-lower.true c.lower.ensures))
        | else-lower w ↦ subst (λ (z : Bool). IsVisited c.args.found.now.anys.items c.args.found.now.table.rows c.args.order.now c.args.far.now.items (c.loop-i.i + 1) c.lower.new.far.items z) (sym w.lowered-is)
            (visited_on c.args.found.now.anys.items c.args.found.now.table.rows c.args.order.now c.args.far.now.items c.loop-i.i c.loop-i.far.items c.lower.new.far.items c.loop-i.lowered n
            c.loop-i.invariant.1 at (subst (λ (z : Bool). IsLowered c.loop-i.far.items n (lowers c.args.found.now.anys.items c.args.found.now.table.rows c.loop-i.far.items n) c.lower.new.far.items z) w.if-lower.false c.lower.ensures))
      ],
    )
