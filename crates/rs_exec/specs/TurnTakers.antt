-- Public: what a task keeps at run time.
use Rattle.std.specs.Prelude.{◌≡◌, ◌≤◌, [], length, Option, Some, None, IsSome, vec_capacity}
use Rattle.rs_core.specs.Histories.{transcript_of}
use Rattle.rs_rings.specs.Acts.{role_of_number}
use Rattle.rs_rings.specs.Views.{blank_part}
use Rattle.rs_session.specs.Stages.{sight_of_stage}
use Rattle.rs_session.specs.declared.stages.Stage.{Stage}
use Rattle.rs_session.specs.declared.stages.Stage.TheVariants.{Ended}
use Rattle.rs_exec.specs.Data.{Task_data}
use Rattle.rs_exec.specs.declared.tasks.TurnTaker.{TurnTaker}

-- the stage; it is missing only in the middle of a turn
abbrev pub stage_in : Option Stage → Stage
stage_in (Some stage) = stage
stage_in None = Ended (record { table = record { words = 0; slots = 0; views_name = 0; atom = 0; block = 0; offset = 0; slot_names = [] }; role = role_of_number 0; part = blank_part 0 })

-- the task with this stage and this player
abbrev pub task_with : {A : Type 0} → Stage → TurnTaker A → Task_data A
task_with stage player = record { stage = stage; actor = player.actor; limit = player.limit; kept = player.kept; transcript = player.entries.items; failed = player.failed }

-- the entries are the transcript of the stage's history; there are no more than the limit, for which there is room
pub record IsInTime {A : Type 0} (stage : Stage) (player : TurnTaker A) : Type 0 where
  pub transcript : player.entries.items ≡ transcript_of (sight_of_stage stage).part.history
  pub short : length player.entries.items ≤ player.limit
  pub room : player.limit ≤ vec_capacity player.entries

-- a task between its turns
pub record TaskIsWhole {A : Type 0} (stage : Option Stage) (player : TurnTaker A) : Type 0 where
  pub present : IsSome stage
  pub in_time : IsInTime (stage_in stage) player
