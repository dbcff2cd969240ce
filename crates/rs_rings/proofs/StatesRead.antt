-- The state that a pass's row has.
use Rattle.std.proofs.Common.{◌≡◌, ℕ, Some, ◌∙◌}
use Rattle.rs_rings.specs.Asked.{MayAct}
use Rattle.rs_rings.specs.Rows.{row_at}
use Rattle.rs_rings.specs.Views.{the_part}
use Rattle.rs_rings.specs.declared.rows.Row.{Row}
use Rattle.rs_rings.proofs.PassRows.{Items, M}

-- the row that is read has the role's state
pub state_read : (r : ℕ) (m : M) (items : Items) (state : ℕ) → MayAct r m items → ((row : Row) → row_at items r ≡ Some row → state ≡ row.state) → state ≡ (the_part r m.0.parts).state
state_read r m items state may reads = let t = may.between.rows r may.speaks_for in reads t.0 t.1 ∙ t.2.state
