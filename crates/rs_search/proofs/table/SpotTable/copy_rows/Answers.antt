use Rattle.std.proofs.Common.{◌++◌, ◌∷◌, [], List, ℕ, ap, take, sym, ◌∙◌}
use Rattle.rs_graph.proofs.Growth.{take_on}
use Rattle.rs_search.proofs.table.SpotTable.copy_rows.Goals as goal

pub loop-number-preserved : goal.loop-number-preserved
loop-number-preserved c =
    c.in_ok-push.ensures.items
    ∙ ap (λ (z : List (List ℕ)). z ++ c.in_ok-copy.field-0 ∷ []) c.loop-number.invariant
    ∙ ap (λ (z : List ℕ). take c.loop-number.number c.args.self.now.rows ++ z ∷ []) c.in_ok-copy.ensures
    ∙ sym (take_on c.args.self.now.rows c.loop-number.number c.row.result.now c.row.ensures)
