use Rattle.std.proofs.Common.{◌<◌, ℕ}
use Rattle.rs_graph.specs.Paths.{Resting}
use Rattle.rs_graph.specs.Ranks.{Edge}
use Rattle.rs_graph.specs.Walks.{IsOnCycle}
use Rattle.rs_graph.proofs.cycles.least_on_cycle.Given as goal

abbrev pub invariant-loop-v : goal.invariant-loop-v
invariant-loop-v l = ((k : ℕ) → k < l.v → IsOnCycle (Edge l.rows) k → ⊥) × Resting l.rows l.search.marks.items l.search.path.items l.search.edges.items l.search.parts.items
