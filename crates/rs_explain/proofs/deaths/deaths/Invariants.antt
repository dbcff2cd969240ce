use Rattle.std.proofs.Common.{◌≡◌, false}
use Rattle.rs_explain.proofs.Lowering.{AreSettled, left_of}
use Rattle.rs_explain.specs.Deaths.{AreBounds}
use Rattle.rs_explain.proofs.deaths.deaths.Given as goal

abbrev pub invariant-loop-lowered : goal.invariant-loop-lowered
invariant-loop-lowered l =
    AreBounds l.sub l.above l.bound l.found.table.spots l.order l.far.items
    × (l.lowered ≡ false → AreSettled l.found.anys.items l.found.table.rows l.order l.far.items)

abbrev pub decreases-loop-lowered : goal.decreases-loop-lowered
decreases-loop-lowered l = left_of l.far.items l.lowered
