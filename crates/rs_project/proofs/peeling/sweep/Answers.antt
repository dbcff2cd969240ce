use Rattle.std.proofs.Common.{arith}
use Rattle.rs_project.proofs.Peels.{none_from}
use Rattle.rs_project.proofs.peeling.sweep.Goals as goal

pub loop-number-preserved-then-index : goal.loop-number-preserved-then-index
loop-number-preserved-then-index c = record {
  within = (let s = c.peel_one.ensures.size in let q = c.loop-number.invariant.size in let w = c.loop-number.invariant.within in omega arith);
  size = c.peel_one.ensures.size;
  unreached = λ role has. c.peel_one.ensures.unreached role (c.loop-number.invariant.unreached role has);
  none = λ e n le on. cc (e);
}

pub loop-number-preserved : goal.loop-number-preserved
loop-number-preserved c = record {
  within = (let s = c.peel_one.ensures.size in let q = c.loop-number.invariant.size in let w = c.loop-number.invariant.within in omega arith);
  size = c.peel_one.ensures.size;
  unreached = λ role has. c.peel_one.ensures.unreached role (c.loop-number.invariant.unreached role has);
  none = λ e. none_from c.loop-number.left.items c.peel_one.new.left.items c.loop-number.number c.index.result.now c.loop-number-test.true
      (let s = c.peel_one.ensures.size in let q = c.loop-number.invariant.size in let w = c.loop-number.invariant.within in omega arith)
      c.index.ensures c.if-index.false c.peel_one.ensures.fewer (c.loop-number.invariant.none e);
}
