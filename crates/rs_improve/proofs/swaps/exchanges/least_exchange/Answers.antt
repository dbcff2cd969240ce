use Rattle.std.proofs.Common.{arith, ap, length}
use Rattle.rs_model.specs.Data.{Machine_data}
use Rattle.rs_improve.proofs.Exchanging.{least_here, none_here, swappable_within}
use Rattle.rs_improve.proofs.swaps.exchanges.least_exchange.Goals as goal

pub returns-then-is_some : goal.returns-then-is_some
returns-then-is_some c = least_here c.args.machine.now c.loop-state.state c.exchange_at-x.result c.exchange_at-x.ensures c.if-is_some.ensures c.loop-state.invariant

pub loop-state-preserved : goal.loop-state-preserved
loop-state-preserved c = none_here c.args.machine.now c.loop-state.state c.exchange_at-x.result c.exchange_at-x.ensures c.if-is_some.ensures c.loop-state.invariant

pub returns : goal.returns
returns c = λ s x.
    let lt = swappable_within c.args.machine.now s x in
    let e = ap (λ (z : Machine_data). length z.states) c.machine.view_is in c.loop-state.invariant s (grind (arith, lt, e, c.len-state-end.ensures, c.loop-state-test.false)) x
