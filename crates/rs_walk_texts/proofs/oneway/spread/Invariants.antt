use Rattle.std.proofs.Common.{◌≡◌, ◌++◌, drop}
use Rattle.rs_walk_texts.specs.OneWay.{spread_over}
use Rattle.rs_walk_texts.proofs.oneway.spread.Given as goal

abbrev pub invariant-loop-n : goal.invariant-loop-n
invariant-loop-n l = l.next.items ++ spread_over l.role l.flags (drop l.n l.nodes) (drop l.n l.flags) ≡ spread_over l.role l.flags l.nodes l.flags
