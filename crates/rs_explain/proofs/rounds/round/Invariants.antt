use Rattle.rs_graph.specs.Removal.{at}
use Rattle.rs_explain.proofs.Circling.{IsOnRound}
use Rattle.rs_explain.specs.KeptNodes.{spots_at}
use Rattle.rs_explain.proofs.rounds.round.Given as goal

abbrev pub invariant-loop-left : goal.invariant-loop-left
invariant-loop-left l =
    IsOnRound (spots_at l.table.spots l.nodes.items.items) (λ n. at l.nodes.places.items n) l.nodes.rows.items l.far l.start l.steps.items l.node l.left

abbrev pub decreases-loop-left : goal.decreases-loop-left
decreases-loop-left l = l.left
