use Rattle.std.proofs.Common.{rules, arith}
use Rattle.rs_io.proofs.Pieces.{Appends_next}
use Rattle.rs_io.proofs.writing.write_all.Goals as goal

pub loop-done-preserved : goal.loop-done-preserved
loop-done-preserved g c = (
  omega (arith, c.in-Ok.ensures.bound, c.split_at.ensures.back_len),
  Appends_next _ _ _ c.loop-done.done c.in-Ok.count c.args.bytes.now _ c.split_at.ensures.back c.loop-done.invariant.1 c.in-Ok.ensures.bytes,
  search rules,
)
