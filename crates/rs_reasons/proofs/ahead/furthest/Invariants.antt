use Rattle.std.proofs.Common.{◌≡◌, drop}
use Rattle.rs_reasons.specs.Ahead.{furthest, nowhere}
use Rattle.rs_reasons.proofs.ahead.furthest.Given as goal

abbrev pub invariant-loop-node : goal.invariant-loop-node
invariant-loop-node l = furthest l.sub l.above l.best (drop l.node-index l.nodes) ≡ furthest l.sub l.above nowhere l.nodes
