use Rattle.std.proofs.Common.{◌≡◌, drop, length, map}
use Rattle.rs_derive.specs.Figures.{greatest}
use Rattle.rs_derive.proofs.derivations.longest.Given as goal

abbrev pub invariant-loop-node : goal.invariant-loop-node
invariant-loop-node l =
    greatest (map (λ n. length n.pending) (drop l.node-index l.derivation.nodes)) l.greatest ≡ greatest (map (λ n. length n.pending) l.derivation.nodes) 0
