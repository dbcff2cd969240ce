-- Public: what comes of a session that is ready to be run.
use Rattle.std.specs.Prelude.{◌≡◌, ◌≤◌, ℕ, List, length, Option, None}
use Rattle.rs_core.specs.Plain.{Moment, Stopped, IsPlain}
use Rattle.rs_core.specs.Runs.{IsGiven}
use Rattle.rs_demos.specs.Acting.{by_demo}
use Rattle.rs_demos.specs.declared.actors.DemoTalker.{DemoTalker}
use Rattle.rs_model.specs.Data.{Machine_data, Names_data}
use Rattle.rs_model.specs.declared.runs.Workers.{Workers}
use Rattle.rs_model.specs.declared.runs.Workers.TheVariants.{One, Several}
use Rattle.rs_safety.specs.Room.{room_of}
use Rattle.rs_answers.specs.Data.{Answer_data}
use Rattle.rs_runs.specs.DemoSessions.{WasRunByActors}
use Rattle.rs_runs.specs.Demos.{TellsDemoRun, actor_at}
use Rattle.rs_runs.specs.Pools.{TellsPool}
use Rattle.rs_runs.specs.Runs.{TellsRun}
use Rattle.rs_runs.specs.RunSessions.{HasCome, IsThereWhere, WasRunByDraws}
use Rattle.rs_runs.specs.declared.answers.AnswerWithSession.{AnswerWithSession}
use Rattle.rs_runs.specs.declared.limits.TheConstants.{DEMO_LIMIT}
use Rattle.rs_runs.specs.declared.ready.Prepared.{Prepared}
use Rattle.rs_runs.specs.declared.ready.Prepared.TheVariants.{Answered, Run, Demo}
use Rattle.rs_runs.specs.declared.ready.Ready.{Ready}

-- no role is stopped at its limit in a run of these machines by these actors, over queues of any capacity or of none
abbrev pub NeverStopped : List DemoTalker → List Machine_data → Type 0
NeverStopped actors machines = (capacity : Option ℕ) (role : ℕ) (end : Moment DemoTalker) → IsPlain machines by_demo (actor_at actors) DEMO_LIMIT capacity (Stopped role end) → ⊥

-- there is an actor for each role
abbrev pub HasActorEach : {A : Type 0} → Ready A → Type 0
HasActorEach ready = length ready.actors.items ≡ length ready.session.machines

-- the rings hold as many messages as the room of the session
abbrev pub HasRoomForAll : {A : Type 0} → Ready A → Type 0
HasRoomForAll ready = room_of ready.session.derivations ≤ ready.capacity

-- a demo that is ready: its rings are large enough, and its limit is that of demos
pub record IsReadyDemo (ready : Ready DemoTalker) : Type 0 where
  pub actors : HasActorEach ready
  pub room : HasRoomForAll ready
  pub limit : ready.limit ≡ DEMO_LIMIT

-- it is ready to be run by these workers: several run only over rings that are large enough, and a demo only where no role
-- comes to the limit
abbrev pub IsReadyFor : Workers → Prepared → Type 0
IsReadyFor workers (Answered answer) = Unit {0}
IsReadyFor One (Run ready) = HasActorEach ready
IsReadyFor (Several n) (Run ready) = HasActorEach ready × HasRoomForAll ready
IsReadyFor One (Demo kind ready) = IsReadyDemo ready
IsReadyFor (Several n) (Demo kind ready) = IsReadyDemo ready × NeverStopped ready.actors.items ready.session.machines

-- what is told of a run of these machines: by one worker, how the plain run over rings of this capacity ends; by several,
-- what the plain run over unbounded queues comes to
abbrev pub TellsBy : Workers → Names_data → List Machine_data → (ℕ → ℕ) → ℕ → ℕ → Answer_data → Type 0
TellsBy One names machines actors limit capacity answer = TellsRun names machines actors limit capacity answer
TellsBy (Several n) names machines actors limit capacity answer = TellsPool names machines actors limit answer

-- what is given once it has been run by these workers: the answer, and the session that it went through
abbrev pub ComesOf : Workers → Prepared → AnswerWithSession → Type 0
ComesOf workers (Answered answer) given = (given.answer ≡ answer) × (given.closed ≡ None)
ComesOf workers (Run ready) given = (actors : ℕ → ℕ) → IsGiven actors ready.actors.items
    → TellsBy workers ready.names ready.session.machines actors ready.limit ready.capacity given.answer
    × IsThereWhere (HasCome given.answer.verdict) (WasRunByDraws ready.names ready.session.machines actors ready.limit given.answer) given.closed
ComesOf workers (Demo kind ready) given =
    TellsDemoRun kind ready.actors.items ready.names ready.session.machines ready.capacity given.answer
    × IsThereWhere (HasCome given.answer.verdict) (WasRunByActors kind ready.actors.items ready.names ready.session.machines given.answer) given.closed

-- it is ready, and the fact holds of all that may come of it
pub record Warrants (workers : Workers) (prepared : Prepared) (fact : AnswerWithSession → Type 0) : Type 0 where
  pub ready : IsReadyFor workers prepared
  pub given : (given : AnswerWithSession) → ComesOf workers prepared given → fact given
