use Rattle.std.proofs.Common.{◌≡◌, ◌<◌, subst, length, slice_get, Some}
use Rattle.rs_graph.proofs.Growth.{in_at}
use Rattle.rs_improve.specs.Swaps.{Exchange_data}
use Rattle.rs_improve.specs.Swapping.{HasSlot}
use Rattle.rs_improve.specs.declared.swaps.SwappedState.{SwappedState}
use Rattle.rs_improve.proofs.Leading.{behind_long}
use Rattle.rs_improve.proofs.swaps.states.nexts_of.Goals as goal

pub nexts_behind-requires-clause-long : goal.nexts_behind-requires-clause-long
nexts_behind-requires-clause-long c = λ i a e.
    let lt : c.in-New.send < length c.args.x.now.puts = subst (λ (z : SwappedState). HasSlot (length c.args.machine.now.states) (length c.args.x.now.puts) z) c.in-New.is c.requires.present in
    behind_long c.args.machine.now c.args.x.now c.in-New.send c.requires.exchange lt a
    (in_at c.args.x.now.takes i a (subst (λ (z : Exchange_data). slice_get z.takes i ≡ Some a) c.x.view_is e))
