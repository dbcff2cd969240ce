-- Who waits, and what a pending poll says of its task.
use Rattle.std.proofs.Common.{◌≡◌, ℕ, ◌<◌, List, Some, false, length, sym, ap, ◌∙◌, subst, ⊎_elim}
use Rattle.rs_model.specs.declared.graph.Arm.{Arm}
use Rattle.rs_model.specs.declared.graph.Role.{Role}
use Rattle.rs_model.specs.declared.machines.State.TheVariants.{Puts, Takes}
use Rattle.rs_core.specs.Actors.{Behaviour}
use Rattle.rs_rings.specs.Passes.{Rings_data}
use Rattle.rs_session.specs.Stages.{sight_of_stage, state_of_stage}
use Rattle.rs_session.specs.declared.stages.Stage.{Stage}
use Rattle.rs_exec.specs.Data.{Task_data}
use Rattle.rs_exec.specs.Polling.{HasStopped}
use Rattle.rs_exec.specs.Tasks.{HasEnded, TaskReceives, TaskSends, TaskTurnTells, WaitsToReceive, WaitsToSend}
use Rattle.rs_exec.specs.declared.tasks.Turn.{Turn}
use Rattle.rs_exec.specs.declared.tasks.Turn.TheVariants as turn
use Rattle.rs_exec.specs.declared.tasks.Why.TheVariants as why

module _ {A : Type 0} (b : Behaviour A) (session : Rings_data) (old new : Task_data A) where
  pub full_peer : (peer : Role) (sent taken : ℕ) → WaitsToSend session b peer sent taken old new → (arms : List Arm) × (state_of_stage session (sight_of_stage old.stage) ≡ Some (Puts peer arms))
  full_peer peer sent taken w = (
    w.full.by.arms,
    ap (λ (s : Stage). state_of_stage session (sight_of_stage s)) w.stands ∙ w.full.by.stands ∙ ap (λ (p : Role). Some (Puts p w.full.by.arms)) (sym w.is_peer),
  )

  pub empty_peer : (peer : Role) (seen : ℕ) → WaitsToReceive session peer seen old new → (arms : List Arm) × (state_of_stage session (sight_of_stage old.stage) ≡ Some (Takes peer arms))
  empty_peer peer seen w = (
    w.empty.from.arms,
    ap (λ (s : Stage). state_of_stage session (sight_of_stage s)) w.stands ∙ w.empty.from.stands ∙ ap (λ (p : Role). Some (Takes p w.empty.from.arms)) (sym w.is_peer),
  )

  not_at_end : (stage : Stage) → old.stage ≡ stage → (HasEnded stage → ⊥) → HasEnded old.stage → ⊥
  not_at_end stage is goes ended = goes (subst HasEnded is ended)

  -- what holds before a turn after which the task goes on
  pub record GoesOnFrom : Type 0 where
    pub ended : HasEnded old.stage → ⊥
    pub below : length old.transcript < old.limit
    pub unrefused : old.failed ≡ false

  pub goes_on_from : (t : Turn) → TaskTurnTells session b old new t → (HasStopped t → ⊥) → GoesOnFrom
  goes_on_from turn.Moved tells goes = record {
    ended = ⊎_elim (λ (k : TaskSends session b old new). not_at_end _ k.stands (λ z. z)) (λ (k : TaskReceives session b old new). not_at_end _ k.gets.stands (λ z. z)) tells.1;
    below = tells.0.below;
    unrefused = tells.0.was;
  }
  goes_on_from (turn.Waits (why.Full peer sent taken)) tells goes = record { ended = not_at_end _ tells.1.stands (λ z. z); below = tells.0.below; unrefused = tells.0.was }
  goes_on_from (turn.Waits (why.Empty peer seen)) tells goes = record { ended = not_at_end _ tells.1.stands (λ z. z); below = tells.0.below; unrefused = tells.0.was }
  goes_on_from turn.Ended tells goes = absurd (goes tt)
  goes_on_from turn.AtLimit tells goes = absurd (goes tt)
  goes_on_from turn.NoMemory tells goes = absurd (goes tt)
