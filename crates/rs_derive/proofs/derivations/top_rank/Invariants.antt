use Rattle.std.proofs.Common.{◌≡◌, drop, map}
use Rattle.rs_derive.specs.Figures.{greatest}
use Rattle.rs_derive.proofs.derivations.top_rank.Given as goal

abbrev pub invariant-loop-node : goal.invariant-loop-node
invariant-loop-node l =
    greatest (map (λ n. n.rank) (drop l.node-index l.derivation.nodes)) l.greatest ≡ greatest (map (λ n. n.rank) l.derivation.nodes) 0
