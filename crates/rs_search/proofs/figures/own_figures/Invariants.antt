use Rattle.std.proofs.Common.{◌≡◌, ◌≤◌, ◌+◌, drop, length, map, if◌then◌else◌}
use Rattle.rs_model.specs.declared.limits.TheConstants.{MOST_CANDIDATES}
use Rattle.rs_derive.specs.Figures.{greatest}
use Rattle.rs_derive.specs.Moves.{Spot}
use Rattle.rs_search.proofs.OwnSpots.{own_spots}
use Rattle.rs_search.proofs.figures.own_figures.Given as goal

abbrev pub invariant-loop-state : goal.invariant-loop-state
invariant-loop-state l =
    (l.nodes ≤ MOST_CANDIDATES)
    × (l.nodes + length (own_spots l.state-index (drop l.state-index l.machine.states)) ≡ length (own_spots 0 l.machine.states))
    × (greatest (map (λ (p : Spot). length p.pending) (own_spots l.state-index (drop l.state-index l.machine.states))) (if l.owes then 1 else 0)
    ≡ greatest (map (λ (p : Spot). length p.pending) (own_spots 0 l.machine.states)) 0)
