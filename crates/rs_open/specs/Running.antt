-- Public: the results of the runs of opened sessions.
use Rattle.std.specs.Prelude.{◌≡◌, ℕ, List, length, Some}
use Rattle.rs_core.specs.Actors.{Behaviour}
use Rattle.rs_core.specs.Plain.{Ending, IsPlain}
use Rattle.rs_core.specs.Runs.{EndingShows, FaultTells, IsGiven}
use Rattle.rs_core.specs.declared.runs.RunFault.{RunFault}
use Rattle.rs_exec.specs.Runs.{IsSessionOfRun}
use Rattle.rs_exec.specs.declared.runs.Ran.{Ran}
use Rattle.rs_model.specs.Data.{Machine_data}
use Rattle.rs_pool.specs.Pool.{AgreesWithPlain, AreNeverHeldUp}

-- what is left is that of the plain run of these actors over queues of this capacity, and the session is the one that they went
-- through, over rings of this capacity
pub record IsRunAlone {A : Type 0} (b : Behaviour A) (machines : List Machine_data) (actors : List A) (limit capacity : ℕ) (ran : Ran A) : Type 0 where
  pub plain : (given : ℕ → A) → IsGiven given actors
      → (o : Ending A) × IsPlain machines b given limit (Some capacity) o × EndingShows (length machines) o ran.run.outcome ran.run.actors.items
  pub session : IsSessionOfRun machines b actors limit ran.closed ran.run.outcome ran.run.actors.items
  pub rings : ran.closed.capacity ≡ capacity

-- the plain run of these actors over queues of this capacity ends as the fault says
abbrev pub IsStuckRun : {A : Type 0} → Behaviour A → List Machine_data → List A → ℕ → ℕ → RunFault → Type 0
IsStuckRun {A} b machines actors limit capacity fault = (given : ℕ → A) → IsGiven given actors → FaultTells machines b given limit capacity fault

-- what is left agrees with the plain run of these actors over unbounded queues; the session is the one that they went through, and
-- over its rings, which have this capacity, they were never all held up
pub record IsRunByCrew {A : Type 0} (b : Behaviour A) (machines : List Machine_data) (actors : List A) (limit capacity : ℕ) (ran : Ran A) : Type 0 where
  pub plain : (given : ℕ → A) → IsGiven given actors → AgreesWithPlain machines b given limit ran.run.outcome ran.run.actors.items
  pub session : IsSessionOfRun machines b actors limit ran.closed ran.run.outcome ran.run.actors.items
  pub rings : ran.closed.capacity ≡ capacity
  pub enough : AreNeverHeldUp machines capacity
