-- Public: what contracts see of a stage.
use Rattle.atomic_table.specs.Seated.{TableId}
use Rattle.rs_model.specs.declared.graph.Role.{Role}
use Rattle.rs_rings.specs.declared.views.Part.{Part}

-- the table of its session's rings, which no other session has; the role that its pass speaks for; and what the pass knows of
-- that role: the state, the history, and what was read of the rings
pub record Stage_data : Type 0 where
  pub table : TableId
  pub role : Role
  pub part : Part
