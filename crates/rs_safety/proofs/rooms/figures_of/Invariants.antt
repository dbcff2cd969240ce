use Rattle.std.proofs.Common.{◌≡◌, drop, length, map}
use Rattle.rs_derive.specs.Figures.{greatest}
use Rattle.rs_safety.specs.Room.{longest, top_rank}
use Rattle.rs_safety.proofs.rooms.figures_of.Given as goal

abbrev pub invariant-loop-node : goal.invariant-loop-node
invariant-loop-node l =
    (greatest (map (λ n. length n.pending) (drop l.node-index l.derivation.nodes)) l.owed ≡ longest l.derivation)
    × (greatest (map (λ n. n.rank) (drop l.node-index l.derivation.nodes)) l.rank ≡ top_rank l.derivation)
