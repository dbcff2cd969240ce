use Rattle.std.proofs.Common.{◌≡◌, map, take}
use Rattle.rs_derive.proofs.Few.{AreLabels}
use Rattle.rs_search.specs.Itself.{AreNamedAt}
use Rattle.rs_search.specs.Table.{StandsWithin}
use Rattle.rs_search.specs.Turns.{owing_by}
use Rattle.rs_search.proofs.found.name_each_owing.Given as goal

abbrev pub invariant-loop-arm : goal.invariant-loop-arm
invariant-loop-arm l = AreNamedAt (λ p. map (λ b. owing_by l.kind p l.peer b) (take l.arm-index l.theirs)) l.fn.table.spots l.k l.table.spots l.row
    × StandsWithin l.table.spots l.k l.limit
    × (l.table.rows ≡ l.fn.table.rows)
    × AreLabels l.theirs l.arm-index
