use Rattle.std.proofs.Common.{◌≡◌, drop, map}
use Rattle.rs_derive.specs.Figures.{greatest}
use Rattle.rs_draw.specs.PutsOff.{left_at}
use Rattle.rs_draw.proofs.own.puts_off_at.Given as goal

abbrev pub invariant-loop-node : goal.invariant-loop-node
invariant-loop-node l =
    greatest (map (left_at l.sub l.above l.state) (drop l.node-index l.derivation.nodes)) l.most ≡ greatest (map (left_at l.sub l.above l.state) l.derivation.nodes) 0
