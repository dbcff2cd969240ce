use Rattle.std.proofs.Common.{◌≡◌, map, take}
use Rattle.rs_derive.specs.Due.{both_at}
use Rattle.rs_derive.specs.Moves.{arm_of}
use Rattle.rs_derive.proofs.Few.{AreLabels}
use Rattle.rs_graph.specs.Lists.{concat}
use Rattle.rs_search.specs.Itself.{AreNamedAt}
use Rattle.rs_search.specs.Table.{StandsWithin}
use Rattle.rs_search.proofs.found.name_both.Given as goal

abbrev pub invariant-loop-arm : goal.invariant-loop-arm
invariant-loop-arm l = AreNamedAt (λ p. concat (map (λ a. both_at p.pending a (arm_of l.theirs a.label)) (take l.arm-index l.arms))) l.fn.table.spots l.k l.table.spots l.row
    × StandsWithin l.table.spots l.k l.limit
    × (l.table.rows ≡ l.fn.table.rows)
    × AreLabels l.arms l.arm-index
