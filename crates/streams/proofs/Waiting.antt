-- What a stage is while it waits.
use Rattle.std.proofs.Common.{◌≡◌}
use Rattle.rs_rings.specs.Passes.{Rings_data}
use Rattle.rs_session.specs.Stages.{IsOf, sight_of_stage}
use Rattle.rs_session.specs.declared.stages.Stage.{Stage}
use Rattle.streams.specs.Streams.{history_at}

-- the stage is one of the session, of the same role as the other, and the role has done the same
pub record IsAs (session : Rings_data) (old new : Stage) : Type 0 where
  pub of : IsOf session new
  pub role : (sight_of_stage new).role ≡ (sight_of_stage old).role
  pub history : history_at new ≡ history_at old
