use Rattle.std.proofs.Common.{List, Bool, refl, subst, sym}
use Rattle.rs_project.specs.Awaited.{HasNoUnreached}
use Rattle.rs_project.proofs.surveying.await_all.Goals as goal

pub loop-by_all-init : goal.loop-by_all-init
loop-by_all-init c = record {
  sizes = c.await_left-2.ensures.sizes;
  marked = λ role involved m. c.await_left-2.ensures.marked role involved (c.await_left.ensures.marked role involved m);
  left = c.await_left-2.ensures.left;
  rounds = λ _ role none. c.await_left-2.ensures.rounds refl role (c.await_left.ensures.rounds refl role none);
}

pub loop-by_all-preserved : goal.loop-by_all-preserved
loop-by_all-preserved c = record {
  sizes = c.await_left-in-loop-by_all.ensures.sizes;
  marked = λ role involved m. c.await_left-in-loop-by_all.ensures.marked role involved (c.loop-by_all.invariant.marked role involved m);
  left = c.await_left-in-loop-by_all.ensures.left;
  rounds = λ e role none. cc (e);
}

pub returns-clause-marked : goal.returns-clause-marked
returns-clause-marked c = λ role involved m. c.await_left-in-loop-by_all.ensures.marked role involved (c.loop-by_all.invariant.marked role involved m)

pub returns-clause-rounds : goal.returns-clause-rounds
returns-clause-rounds c = λ e role none.
    let P : List Bool → Type 0 = λ z. HasNoUnreached c.args.protocol.now role z in
    subst P (sym (c.await_left-in-loop-by_all.ensures.same c.loop-by_all-test.false)) (c.loop-by_all.invariant.rounds e role none)
