-- Public: what a poll of a task returns, and what is known of a task that is lent to an executor.
use Rattle.std.specs.Prelude.{◌≡◌, ℕ, ◌≤◌, false, length, Option, Some, IfSome}
use Rattle.rs_model.specs.declared.graph.Role.{Role}
use Rattle.rs_core.specs.Actors.{Behaviour}
use Rattle.rs_rings.specs.Passes.{Rings_data}
use Rattle.rs_exec.specs.Data.{Task_data}
use Rattle.rs_session.specs.Stages.{sight_of_stage}
use Rattle.rs_exec.specs.Tasks.{IsTaskOf, PlaysTask, TaskTurnTells}
use Rattle.rs_exec.specs.declared.tasks.Turn.{Turn}
use Rattle.rs_exec.specs.declared.tasks.Turn.TheVariants as turn
use Rattle.futures.specs.declared.task.Poll.{Poll}
use Rattle.futures.specs.declared.task.Poll.TheVariants.{Ready, Pending}

-- after such a turn the task doesn't continue
abbrev pub HasStopped : Turn → Type 0
HasStopped turn.Moved = ⊥
HasStopped (turn.Waits why) = ⊥
HasStopped turn.Ended = Unit {0}
HasStopped turn.AtLimit = Unit {0}
HasStopped turn.NoMemory = Unit {0}

-- a poll makes one turn. It is pending where the task goes on, and else gives the turn
abbrev pub PollTells : {A : Type 0} → Rings_data → Behaviour A → Task_data A → Task_data A → Poll Turn → Type 0
PollTells session b old new Pending = (t : Turn) × TaskTurnTells session b old new t × (HasStopped t → ⊥)
PollTells session b old new (Ready t) = TaskTurnTells session b old new t × HasStopped t

-- a poll of a task of the session, which it stays
pub record IsPolled {A : Type 0} (session : Rings_data) (b : Behaviour A) (old new : Task_data A) (poll : Poll Turn) : Type 0 where
  pub of : IsTaskOf session new
  pub tells : PollTells session b old new poll

-- what a task began with: its session, its role, its limit, and the actor that was given to it
pub record Begun (A : Type 0) : Type 0 where
  pub session : Rings_data
  pub role : Role
  pub limit : ℕ
  pub given : Option A

-- what a task that has made no turn begins with: its own role, limit and actor
abbrev pub begun_by : {A : Type 0} → Rings_data → Task_data A → Begun A
begun_by session task = record { session = session; role = (sight_of_stage task.stage).role; limit = task.limit; given = Some task.actor }

-- a task that began so, after any turns: it is of the session, its stage is one of that role, it has the limit, and has made no
-- more acts than that; and unless memory was refused, the actor that was given plays what the role did, and has become the task's
pub record IsTaskFrom {A : Type 0} (b : Behaviour A) (begun : Begun A) (task : Task_data A) : Type 0 where
  pub of : IsTaskOf begun.session task
  pub role : (sight_of_stage task.stage).role ≡ begun.role
  pub limit : task.limit ≡ begun.limit
  pub acts : length task.transcript ≤ begun.limit
  pub plays : task.failed ≡ false → IfSome begun.given (λ x. PlaysTask begun.session b x task)
