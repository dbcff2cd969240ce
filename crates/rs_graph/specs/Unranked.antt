-- Public: why rows have no ranks.
use Rattle.std.specs.Prelude.{ℕ, List}
use Rattle.rs_graph.specs.Ranks.{Edge}
use Rattle.rs_graph.specs.Walks.{IsLeastOnCycle}
use Rattle.rs_graph.specs.declared.ranks.RankFault.{RankFault}
use Rattle.rs_graph.specs.declared.ranks.RankFault.TheVariants.{OnCycle, Memory}

-- a number is on a cycle, and it is the least; want of memory says nothing
abbrev pub Unranks : List (List ℕ) → RankFault → Type 0
Unranks rows (OnCycle node) = IsLeastOnCycle (Edge rows) node
Unranks rows Memory = Unit {0}
