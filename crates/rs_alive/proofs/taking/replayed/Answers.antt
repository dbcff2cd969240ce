use Rattle.std.proofs.Common.{◌∙◌, ◌+◌, List, arith, subst, sym, take}
use Rattle.rs_model.specs.Data.{Machine_data}
use Rattle.rs_core.specs.Core.{configuration_of}
use Rattle.rs_safety.proofs.Accepts.{gets}
use Rattle.rs_alive.specs.Pasts.{PastLeadsTo}
use Rattle.rs_alive.proofs.Replaying.{leads_more}
use Rattle.rs_alive.proofs.taking.replayed.Goals as goal

pub loop-at-preserved : goal.loop-at-preserved
loop-at-preserved c =
    let P : List Machine_data → Type 0 = λ z. PastLeadsTo z (take (c.loop-at.at + 1) c.args.past.now) (configuration_of c.replay.new.core) in (
      subst P (sym c.replay.ensures.machines)
          (leads_more c.loop-at.core.machines c.args.past.now c.loop-at.at (c.loop-at.at + 1) c.index-past-at.result (configuration_of c.loop-at.core) (configuration_of c.replay.new.core)
          (omega arith)
          (gets c.args.past.now c.loop-at.at c.index-past-at.result c.loop-at-test.true c.index-past-at.is) c.loop-at.invariant.0 c.in_ok-replay.ensures.step),
      c.replay.ensures.machines ∙ c.loop-at.invariant.1,
    )
