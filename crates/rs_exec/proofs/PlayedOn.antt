-- Who plays the history of a task's role before a turn plays it after the turn.
use Rattle.std.proofs.Common.{◌≡◌, ◌≢◌, ⊎_elim, ℕ, List, [], ◌∷◌, ◌++◌, Option, Some, None, slice_get, refl, sym, ap, ◌∙◌, subst}
use Rattle.std.proofs.lemmas.Option.{same_Some}
use Rattle.rs_model.specs.Data.{Machine_data}
use Rattle.rs_model.specs.declared.graph.Arm.{Arm}
use Rattle.rs_model.specs.declared.graph.Role.{Role}
use Rattle.rs_model.specs.declared.machines.State.{State}
use Rattle.rs_model.specs.declared.machines.State.TheVariants.{Puts, Takes}
use Rattle.rs_core.specs.Actors.{Behaviour, Choice, KeepsChoice, Plays, PlaysAction, PlaysFrom}
use Rattle.rs_core.specs.Configurations.{state_of}
use Rattle.rs_core.specs.Histories.{Action, Sent, Got, History}
use Rattle.rs_core.specs.Plain.{offer_of}
use Rattle.rs_rings.specs.Passes.{Rings_data}
use Rattle.rs_rings.specs.Views.{start_of}
use Rattle.rs_session.specs.Data.{Stage_data}
use Rattle.rs_session.specs.Stages.{first_stage, sight_of_stage, state_of_stage}
use Rattle.rs_exec.specs.Data.{Task_data}
use Rattle.rs_exec.specs.Tasks.{PlaysStage, PlaysTask, PlaysUpTo, RunsMachine, TaskReceives, TaskSends, TaskTurnTells, WaitsToReceive, WaitsToSend}
use Rattle.rs_exec.specs.declared.tasks.Turn.{Turn}
use Rattle.rs_exec.specs.declared.tasks.Turn.TheVariants as turn
use Rattle.rs_exec.specs.declared.tasks.Why.TheVariants as why

module _ {A : Type 0} (b : Behaviour A) where
  pub plays_more : (m : Machine_data) (s : ℕ) (x : A) (h : History) (t : ℕ) (y : A) (a : Action) (u : ℕ) (z : A) → PlaysFrom b m s x h t y → PlaysAction b m t y a u z
      → PlaysFrom b m s x (h ++ a ∷ []) u z
  plays_more m s x [] t y a u z so act = (u, z, subst (λ (k : ℕ × A). PlaysAction b m k.0 k.1 a u z) (λ i. (sym so.0 i, sym so.1 i)) act, (refl, refl))
  plays_more m s x (c ∷ h) t y a u z so act = (so.0, so.1, so.2, plays_more m so.0 so.1 h t y a u z so.3 act)

  -- what is offered is what the actor after the history chooses
  pub record Chose (mid : A) (arms : List Arm) (choice : Choice) (z : A) : Type 0 where
    pub chooses : b.chooses mid arms ≡ choice
    pub asked : b.asked mid arms ≡ z

  pub chose : (m : Machine_data) (s : ℕ) (mid : A) (kept : Option Choice) (y : A) (peer : Role) (arms : List Arm) (choice : Choice) (z : A) → KeepsChoice b m s mid kept y
      → slice_get m.states s ≡ Some (Puts peer arms) → offer_of b y kept arms ≡ (choice, z) → Chose mid arms choice z
  chose m s mid None y peer arms choice z keeps puts is = record {
    chooses = ap (λ (k : A). b.chooses k arms) keeps ∙ ap (λ (k : Choice × A). k.0) is;
    asked = ap (λ (k : A). b.asked k arms) keeps ∙ ap (λ (k : Choice × A). k.1) is;
  }
  chose m s mid (Some o) y peer arms choice z keeps puts is =
      let both : Some (Puts keeps.0 keeps.1) ≡ Some (Puts peer arms) = sym keeps.2 ∙ puts in
      let same : keeps.1 ≡ arms = cc (both) in
      record {
        chooses = ap (λ (l : List Arm). b.chooses mid l) (sym same) ∙ keeps.3 ∙ ap (λ (k : Choice × A). k.0) is;
        asked = ap (λ (l : List Arm). b.asked mid l) (sym same) ∙ keeps.4 ∙ ap (λ (k : Choice × A). k.1) is;
      }

  -- at a state that receives nothing is kept
  pub record KeepsNone (mid : A) (kept : Option Choice) (y : A) : Type 0 where
    pub same : mid ≡ y
    pub none : kept ≡ None

  pub keeps_none : (m : Machine_data) (s : ℕ) (mid : A) (kept : Option Choice) (y : A) (peer : Role) (arms : List Arm) → KeepsChoice b m s mid kept y → slice_get m.states s ≡ Some (Takes peer arms)
      → KeepsNone mid kept y
  keeps_none m s mid None y peer arms keeps takes = record { same = keeps; none = refl }
  keeps_none m s mid (Some o) y peer arms keeps takes = let both : Some (Puts keeps.0 keeps.1) ≡ Some (Takes peer arms) = sym keeps.2 ∙ takes in absurd (cc (both))

  module _ (session : Rings_data) (x : A) where
    in_machine : (at : Stage_data) (m : Machine_data) (s : State) → slice_get session.machines at.role.0 ≡ Some m → state_of_stage session at ≡ Some s → slice_get m.states at.part.state ≡ Some s
    in_machine at m s runs stands = ap (λ (o : Option Machine_data). state_of o at.part.state) (sym runs) ∙ stands

    moved : (old now : Stage_data) (kept kept' : Option Choice) (y y' : A) → old ≡ now → kept ≡ kept' → y ≡ y' → PlaysStage session b x old kept y → PlaysStage session b x now kept' y'
    moved old now kept kept' y y' a c d = subst (λ (k : Stage_data × Option Choice × A). PlaysStage session b x k.0 k.1 k.2) (λ i. (a i, c i, d i))

    by_send : (old new : Task_data A) → TaskSends session b old new → PlaysTask session b x old → PlaysTask session b x new
    by_send old new sends so =
        let at = sends.at in let by = sends.sent.by in
        let was : PlaysStage session b x at old.kept old.actor = moved (sight_of_stage old.stage) at old.kept old.kept old.actor old.actor (ap sight_of_stage sends.stands) refl refl so in
        let puts = in_machine at was.machine (Puts by.peer by.arms) was.runs by.stands in
        let c = chose was.machine at.part.state was.actor old.kept old.actor by.peer by.arms sends.choice new.actor was.keeps puts sends.offers in
        let act : PlaysAction b was.machine at.part.state was.actor (Sent by.peer by.arm.label sends.choice.1) by.arm.next new.actor = record {
          arms = by.arms;
          arm = by.arm;
          puts = puts;
          picks = ap (λ (k : Choice). slice_get by.arms k.0) c.chooses ∙ by.picks;
          same_label = refl;
          same_value = ap (λ (k : Choice). k.1) c.chooses;
          goes = refl;
          becomes = c.asked;
        } in
        subst (λ (k : Stage_data). PlaysStage session b x k new.kept new.actor) (sym sends.sent.sent.becomes) record {
          machine = was.machine;
          actor = new.actor;
          runs = was.runs;
          plays = plays_more was.machine was.machine.start x at.part.history at.part.state was.actor (Sent by.peer by.arm.label sends.choice.1) by.arm.next new.actor was.plays act;
          keeps = subst (λ (k : Option Choice). KeepsChoice b was.machine by.arm.next new.actor k new.actor) (sym sends.kept) refl;
        }

    by_receive : (old new : Task_data A) → TaskReceives session b old new → PlaysTask session b x old → PlaysTask session b x new
    by_receive old new receives so =
        let gets = receives.gets in let at = gets.at in let by = gets.got.by in
        let was : PlaysStage session b x at old.kept old.actor = moved (sight_of_stage old.stage) at old.kept old.kept old.actor old.actor (ap sight_of_stage gets.stands) refl refl so in
        let takes = in_machine at was.machine (Takes by.peer by.arms) was.runs by.stands in
        let none = keeps_none was.machine at.part.state was.actor old.kept old.actor by.peer by.arms was.keeps takes in
        let act : PlaysAction b was.machine at.part.state was.actor (Got by.peer by.arm.label gets.value) by.arm.next new.actor = record {
          arms = by.arms;
          place = gets.place;
          arm = by.arm;
          takes = takes;
          follows = by.picks;
          same_label = refl;
          goes = refl;
          becomes = ap (λ (k : A). b.told k by.arms gets.place gets.value) none.same ∙ receives.told;
        } in
        subst (λ (k : Stage_data). PlaysStage session b x k new.kept new.actor) (sym gets.got.got.becomes) record {
          machine = was.machine;
          actor = new.actor;
          runs = was.runs;
          plays = plays_more was.machine was.machine.start x at.part.history at.part.state was.actor (Got by.peer by.arm.label gets.value) by.arm.next new.actor was.plays act;
          keeps = subst (λ (k : Option Choice). KeepsChoice b was.machine by.arm.next new.actor k new.actor) (sym (gets.kept ∙ none.none)) refl;
        }

    by_full : (peer : Role) (sent taken : ℕ) (old new : Task_data A) → WaitsToSend session b peer sent taken old new → PlaysTask session b x old → PlaysTask session b x new
    by_full peer sent taken old new waits so =
        let at = waits.at in let by = waits.full.by in
        let was : PlaysStage session b x at old.kept old.actor = moved (sight_of_stage old.stage) at old.kept old.kept old.actor old.actor (ap sight_of_stage waits.stands) refl refl so in
        let puts = in_machine at was.machine (Puts by.peer by.arms) was.runs by.stands in
        let c = chose was.machine at.part.state was.actor old.kept old.actor by.peer by.arms waits.choice new.actor was.keeps puts waits.offers in
        subst (λ (k : Stage_data). PlaysStage session b x k new.kept new.actor) (sym (ap sight_of_stage waits.stays ∙ waits.full.full.becomes)) record {
          machine = was.machine;
          actor = was.actor;
          runs = was.runs;
          plays = was.plays;
          keeps = subst (λ (k : Option Choice). KeepsChoice b was.machine at.part.state was.actor k new.actor) (sym waits.kept) (by.peer, by.arms, puts, c.chooses, c.asked);
        }

    by_empty : (peer : Role) (seen : ℕ) (old new : Task_data A) → WaitsToReceive session peer seen old new → PlaysTask session b x old → PlaysTask session b x new
    by_empty peer seen old new waits so =
        let at = waits.at in
        let was : PlaysStage session b x at old.kept old.actor = moved (sight_of_stage old.stage) at old.kept old.kept old.actor old.actor (ap sight_of_stage waits.stands) refl refl so in
        subst (λ (k : Stage_data × Option Choice × A). PlaysStage session b x k.0 k.1 k.2)
        (λ i. (sym (ap sight_of_stage waits.stays ∙ waits.empty.empty.becomes) i, sym waits.kept i, sym waits.actor i))
        record { machine = was.machine; actor = was.actor; runs = was.runs; plays = was.plays; keeps = was.keeps }

    same_task : (old new : Task_data A) → new ≡ old → PlaysTask session b x old → PlaysTask session b x new
    same_task old new is so = subst (PlaysTask session b x) (sym is) so

    pub plays_on : (old new : Task_data A) (t : Turn) → t ≢ turn.NoMemory → TaskTurnTells session b old new t → PlaysTask session b x old → PlaysTask session b x new
    plays_on old new turn.Moved ne tells so = ⊎_elim (λ (k : TaskSends session b old new). by_send old new k so) (λ (k : TaskReceives session b old new). by_receive old new k so) tells.1
    plays_on old new (turn.Waits (why.Full peer sent taken)) ne tells so = by_full peer sent taken old new tells.1 so
    plays_on old new (turn.Waits (why.Empty peer seen)) ne tells so = by_empty peer seen old new tells.1 so
    plays_on old new turn.Ended ne tells so = same_task old new tells.0.same so
    plays_on old new turn.AtLimit ne tells so = same_task old new tells.0.same so
    plays_on old new turn.NoMemory ne tells so = absurd (ne refl)

  pub plays_nothing_yet : (session : Rings_data) (machine : Machine_data) (task : Task_data A) → RunsMachine session (sight_of_stage task.stage) machine
      → (sight_of_stage task.stage).part.history ≡ [] → (sight_of_stage task.stage).part.state ≡ machine.start → task.kept ≡ None → PlaysTask session b task.actor task
  plays_nothing_yet session machine task runs none start kept = record {
    machine = machine;
    actor = task.actor;
    runs = runs;
    plays = subst (λ (k : History × ℕ). PlaysFrom b machine machine.start task.actor k.0 k.1 task.actor) (λ i. (sym none i, sym start i)) (refl, refl);
    keeps = subst (λ (k : Option Choice). KeepsChoice b machine (sight_of_stage task.stage).part.state task.actor k task.actor) (sym kept) refl;
  }

  -- so it is of a first stage
  pub plays_nothing : (session : Rings_data) (r : ℕ) (machine : Machine_data) (task : Task_data A) → slice_get session.machines r ≡ Some machine → sight_of_stage task.stage ≡ first_stage session r
      → task.kept ≡ None → PlaysTask session b task.actor task
  plays_nothing session r machine task runs first kept =
      plays_nothing_yet session machine task (ap (λ (k : Stage_data). slice_get session.machines k.role.0) first ∙ runs) (ap (λ (k : Stage_data). k.part.history) first)
      (ap (λ (k : Stage_data). k.part.state) first ∙ ap start_of runs) kept

  pub plays_history : (session : Rings_data) (x : A) (task : Task_data A) → (so : PlaysTask session b x task) → Plays b so.machine x (sight_of_stage task.stage).part.history task.kept task.actor
  plays_history session x task so = record { state = (sight_of_stage task.stage).part.state; actor = so.actor; plays = so.plays; keeps = so.keeps }

  -- who plays up to the stage, plays so after a turn
  pub task_up_to : (session : Rings_data) (machine : Machine_data) (x : A) (task : Task_data A) → RunsMachine session (sight_of_stage task.stage) machine → PlaysUpTo b machine x task
      → PlaysTask session b x task
  task_up_to session machine x task runs so = record {
    machine = machine;
    actor = so.0.actor;
    runs = runs;
    plays = subst (λ (s : ℕ). PlaysFrom b machine machine.start x (sight_of_stage task.stage).part.history s so.0.actor) so.1 so.0.plays;
    keeps = subst (λ (s : ℕ). KeepsChoice b machine s so.0.actor task.kept task.actor) so.1 so.0.keeps;
  }

  pub up_to_task : (session : Rings_data) (machine : Machine_data) (x : A) (task : Task_data A) → RunsMachine session (sight_of_stage task.stage) machine → PlaysTask session b x task
      → PlaysUpTo b machine x task
  up_to_task session machine x task runs so =
      let here : PlaysUpTo b so.machine x task = (record { state = (sight_of_stage task.stage).part.state; actor = so.actor; plays = so.plays; keeps = so.keeps }, refl) in
      subst (λ (m : Machine_data). PlaysUpTo b m x task) (same_Some so.machine machine (sym so.runs ∙ runs)) here
