-- Public: what contracts see of a task.
use Rattle.std.specs.Prelude.{ℕ, Bool, List, Option}
use Rattle.rs_core.specs.Actors.{Choice}
use Rattle.rs_core.specs.declared.transcripts.Entry.{Entry}
use Rattle.rs_session.specs.declared.stages.Stage.{Stage}

-- where its role stands; its actor; how many acts it may make; the choice that it keeps from when it found its ring full; what
-- it has done; and whether memory was refused to its actor
pub record Task_data (A : Type 0) : Type 0 where
  pub stage : Stage
  pub actor : A
  pub limit : ℕ
  pub kept : Option Choice
  pub transcript : List Entry
  pub failed : Bool
