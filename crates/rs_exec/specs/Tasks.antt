-- Public: what contracts see of tasks, and what a turn of a task returns.
use Rattle.std.specs.Prelude.{◌≡◌, ◌⊎◌, ℕ, ◌<◌, ◌≤◌, true, false, [], ◌∷◌, ◌++◌, length, Option, Some, None, IfSome, slice_get}
use Rattle.rs_model.specs.Data.{Machine_data}
use Rattle.rs_model.specs.declared.graph.Role.{Role}
use Rattle.rs_model.specs.declared.values.Value.{Value}
use Rattle.rs_core.specs.Actors.{Behaviour, Choice, KeepsChoice, Plays, PlaysFrom}
use Rattle.rs_core.specs.Plain.{offer_of}
use Rattle.rs_core.specs.declared.transcripts.Entry.TheVariants as entry
use Rattle.rs_rings.specs.Passes.{Rings_data}
use Rattle.rs_session.specs.Acts.{SendsBy, IsSent, IsHandedBack, IsGot, IsKept}
use Rattle.rs_session.specs.Data.{Stage_data}
use Rattle.rs_session.specs.Stages.{IsOf, sight_of_stage}
use Rattle.rs_session.specs.declared.stages.Stage.{Stage}
use Rattle.rs_session.specs.declared.stages.Stage.TheVariants.{Sending, Receiving, Ended}
use Rattle.rs_exec.specs.Data.{Task_data}
use Rattle.rs_exec.specs.declared.tasks.Turn.{Turn}
use Rattle.rs_exec.specs.declared.tasks.Turn.TheVariants as turn
use Rattle.rs_exec.specs.declared.tasks.Why.TheVariants as why

-- the stage is of the session, and a choice that the task keeps is one that the stage can send
pub record IsTaskOf {A : Type 0} (session : Rings_data) (task : Task_data A) : Type 0 where
  pub of : IsOf session task.stage
  pub keeps : IfSome task.kept (λ choice. SendsBy session (sight_of_stage task.stage) choice.0 choice.1)

-- the stage is one at the end of its machine
abbrev pub HasEnded : Stage → Type 0
HasEnded (Sending stage) = ⊥
HasEnded (Receiving stage) = ⊥
HasEnded (Ended stage) = Unit {0}

-- what the actor offers, or what was kept, is sent
pub record TaskSends {A : Type 0} (session : Rings_data) (b : Behaviour A) (old new : Task_data A) : Type 0 where
  pub at : Stage_data
  pub choice : Choice
  pub stands : old.stage ≡ Sending at
  pub sent : IsSent session at choice.0 choice.1 new.stage
  pub offers : offer_of b old.actor old.kept sent.by.arms ≡ (choice, new.actor)
  pub kept : new.kept ≡ None
  pub transcript : new.transcript ≡ old.transcript ++ entry.Sent sent.by.peer sent.by.arm.label ∷ []

-- a value is got by the arm at that place, and becomes an entry
pub record Gets {A : Type 0} (session : Rings_data) (old new : Task_data A) : Type 0 where
  pub at : Stage_data
  pub place : ℕ
  pub value : Value
  pub stands : old.stage ≡ Receiving at
  pub got : IsGot session at place value new.stage
  pub kept : new.kept ≡ old.kept
  pub transcript : new.transcript ≡ old.transcript ++ entry.Got got.by.peer got.by.arm.label value ∷ []

-- a value is received, and the actor gets it
pub record TaskReceives {A : Type 0} (session : Rings_data) (b : Behaviour A) (old new : Task_data A) : Type 0 where
  pub gets : Gets session old new
  pub told : b.told old.actor gets.got.by.arms gets.place gets.value ≡ new.actor

-- the ring to the peer is full, and what the actor offers is kept
pub record WaitsToSend {A : Type 0} (session : Rings_data) (b : Behaviour A) (peer : Role) (sent taken : ℕ) (old new : Task_data A) : Type 0 where
  pub at : Stage_data
  pub back : Stage_data
  pub choice : Choice
  pub stands : old.stage ≡ Sending at
  pub stays : new.stage ≡ Sending back
  pub full : IsHandedBack session at choice.0 choice.1 back choice.1 sent taken
  pub is_peer : peer ≡ full.by.peer
  pub offers : offer_of b old.actor old.kept full.by.arms ≡ (choice, new.actor)
  pub kept : new.kept ≡ Some choice
  pub transcript : new.transcript ≡ old.transcript

-- the ring from the peer is empty
pub record WaitsToReceive {A : Type 0} (session : Rings_data) (peer : Role) (seen : ℕ) (old new : Task_data A) : Type 0 where
  pub at : Stage_data
  pub back : Stage_data
  pub stands : old.stage ≡ Receiving at
  pub stays : new.stage ≡ Receiving back
  pub empty : IsKept session at back seen
  pub is_peer : peer ≡ empty.from.peer
  pub actor : new.actor ≡ old.actor
  pub kept : new.kept ≡ old.kept
  pub transcript : new.transcript ≡ old.transcript

-- the actor was asked, memory was refused, and nothing moved
pub record AsksInVain {A : Type 0} (old new : Task_data A) : Type 0 where
  pub at : Stage_data
  pub stands : old.stage ≡ Sending at
  pub none : old.kept ≡ None
  pub below : length old.transcript < old.limit
  pub same : new ≡ record { stage = old.stage; actor = old.actor; limit = old.limit; kept = None; transcript = old.transcript; failed = true }

-- a value was received, and the actor couldn't take it
pub record TellsInVain {A : Type 0} (session : Rings_data) (old new : Task_data A) : Type 0 where
  pub gets : Gets session old new
  pub below : length old.transcript < old.limit
  pub actor : new.actor ≡ old.actor
  pub limit : new.limit ≡ old.limit
  pub failed : new.failed ≡ true

-- memory ran out: before the turn; or when the actor was asked, or when it should take a value
pub data TaskIsRefused {A : Type 0} (session : Rings_data) (old new : Task_data A) : Type 0 where
  Before : old.failed ≡ true → new ≡ old → TaskIsRefused session old new
  Asked : old.failed ≡ false → AsksInVain old new → TaskIsRefused session old new
  Told : old.failed ≡ false → TellsInVain session old new → TaskIsRefused session old new

-- a turn of a task below its limit, which goes on
pub record TaskGoesOn {A : Type 0} (old new : Task_data A) : Type 0 where
  pub below : length old.transcript < old.limit
  pub limit : new.limit ≡ old.limit
  pub was : old.failed ≡ false
  pub unfailed : new.failed ≡ false

-- a turn that changes nothing
pub record TaskStays {A : Type 0} (old new : Task_data A) : Type 0 where
  pub same : new ≡ old
  pub was : old.failed ≡ false

-- what a turn returns
abbrev pub TaskTurnTells : {A : Type 0} → Rings_data → Behaviour A → Task_data A → Task_data A → Turn → Type 0
TaskTurnTells session b old new turn.Moved = TaskGoesOn old new × (TaskSends session b old new ⊎ TaskReceives session b old new)
TaskTurnTells session b old new (turn.Waits (why.Full peer sent taken)) = TaskGoesOn old new × WaitsToSend session b peer sent taken old new
TaskTurnTells session b old new (turn.Waits (why.Empty peer seen)) = TaskGoesOn old new × WaitsToReceive session peer seen old new
TaskTurnTells session b old new turn.Ended = TaskStays old new × HasEnded old.stage
TaskTurnTells session b old new turn.AtLimit = TaskStays old new × (HasEnded old.stage → ⊥) × (old.limit ≤ length old.transcript)
TaskTurnTells session b old new turn.NoMemory = TaskIsRefused session old new

-- actor x plays the history of the stage with its role's machine, up to the state at which the stage stands; it keeps that
-- choice, if any, and has become y
pub record PlaysStage {A : Type 0} (session : Rings_data) (b : Behaviour A) (x : A) (stage : Stage_data) (kept : Option Choice) (y : A) : Type 0 where
  pub machine : Machine_data
  pub actor : A
  pub runs : slice_get session.machines stage.role.0 ≡ Some machine
  pub plays : PlaysFrom b machine machine.start x stage.part.history stage.part.state actor
  pub keeps : KeepsChoice b machine stage.part.state actor kept y

-- actor x plays the history of the task's role and has become the task's actor
abbrev pub PlaysTask : {A : Type 0} → Rings_data → Behaviour A → A → Task_data A → Type 0
PlaysTask session b x task = PlaysStage session b x (sight_of_stage task.stage) task.kept task.actor

-- the stage's role has this machine
abbrev pub RunsMachine : Rings_data → Stage_data → Machine_data → Type 0
RunsMachine session stage machine = slice_get session.machines stage.role.0 ≡ Some machine

-- actor x plays the history of the task's role with this machine, and has become the task's actor; it comes so to the state at
-- which the stage stands
abbrev pub PlaysUpTo : {A : Type 0} → Behaviour A → Machine_data → A → Task_data A → Type 0
PlaysUpTo b machine x task =
    (so : Plays b machine x (sight_of_stage task.stage).part.history task.kept task.actor) × (so.state ≡ (sight_of_stage task.stage).part.state)
