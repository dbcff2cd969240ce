use Rattle.std.proofs.Common.{◌≡◌, map, take}
use Rattle.rs_improve.specs.Swaps.{next_behind}
use Rattle.rs_improve.proofs.swaps.states.nexts_behind.Given as goal

abbrev pub invariant-loop-i : goal.invariant-loop-i
invariant-loop-i l = l.nexts.items ≡ map (next_behind l.machine l.send) (take l.i l.takes)
