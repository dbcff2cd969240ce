-- What stays in a turn of a task: its role, its limit, and that there are no more acts than that.
use Rattle.std.proofs.Common.{◌≡◌, ◌≢◌, ℕ, ◌+◌, ◌<◌, ◌≤◌, true, false, true≢false, List, length, [], ◌∷◌, ◌++◌, IfSome, Option, Some, None, refl, sym, ap, ◌∙◌, ⊎_elim}
use Rattle.std.proofs.Common.{arith}
use Rattle.std.proofs.Common.{length-append}
use Rattle.rs_core.specs.Actors.{Behaviour, Choice}
use Rattle.rs_core.specs.declared.transcripts.Entry.{Entry}
use Rattle.rs_exec.specs.Data.{Task_data}
use Rattle.rs_exec.specs.Polling.{Begun, IsTaskFrom, begun_by}
use Rattle.rs_exec.specs.Tasks as task
use Rattle.rs_exec.specs.Tasks.{IsTaskOf, PlaysTask, RunsMachine, TaskTurnTells, TaskIsRefused, Gets, Before, Asked, Told}
use Rattle.rs_exec.specs.declared.tasks.Turn.{Turn}
use Rattle.rs_exec.specs.declared.tasks.Turn.TheVariants as turn
use Rattle.rs_exec.specs.declared.tasks.Why.TheVariants as why
use Rattle.rs_exec.proofs.PlayedOn.{plays_nothing_yet, plays_on}
use Rattle.rs_model.specs.Data.{Machine_data}
use Rattle.rs_rings.specs.Passes.{Rings_data}
use Rattle.rs_session.specs.Acts.{SendsBy}
use Rattle.rs_session.specs.Data.{Stage_data}
use Rattle.rs_session.specs.Stages.{IsOf, sight_of_stage}
use Rattle.rs_session.specs.declared.stages.Stage.{Stage}

pub if_some_map : {A : Type 0} (o : Option A) (F G : A → Type 0) → ((a : A) → F a → G a) → IfSome o F → IfSome o G
if_some_map None F G f h = tt
if_some_map (Some a) F G f h = f a h

role_by : (at k : Stage_data) (old new : Stage) → sight_of_stage old ≡ at → sight_of_stage new ≡ k → k.role ≡ at.role → (sight_of_stage new).role ≡ (sight_of_stage old).role
role_by at k old new was is same = ap (λ (s : Stage_data). s.role) is ∙ same ∙ sym (ap (λ (s : Stage_data). s.role) was)

one_more : (xs ys : List Entry) (e : Entry) (n m : ℕ) → ys ≡ xs ++ e ∷ [] → length xs < n → n ≡ m → length ys ≤ m
one_more xs ys e n m is below same = let many : length ys ≡ length xs + 1 = ap length is ∙ length-append xs (e ∷ []) in omega arith

as_many : (xs ys : List Entry) (m : ℕ) → ys ≡ xs → length xs ≤ m → length ys ≤ m
as_many xs ys m is few = let many : length ys ≡ length xs = ap length is in omega arith

module _ {A : Type 0} (b : Behaviour A) (session : Rings_data) (old new : Task_data A) where
  role_of_gets : Gets session old new → (sight_of_stage new.stage).role ≡ (sight_of_stage old.stage).role
  role_of_gets gets = role_by gets.at (sight_of_stage new.stage) old.stage new.stage (ap sight_of_stage gets.stands) refl (ap (λ (k : Stage_data). k.role) gets.got.got.becomes)

  -- a turn leaves the role as it was
  pub same_role : (t : Turn) → TaskTurnTells session b old new t → (sight_of_stage new.stage).role ≡ (sight_of_stage old.stage).role
  same_role turn.Moved tells = ⊎_elim
      (λ (k : task.TaskSends session b old new). role_by k.at (sight_of_stage new.stage) old.stage new.stage (ap sight_of_stage k.stands) refl (ap (λ (s : Stage_data). s.role) k.sent.sent.becomes))
      (λ (k : task.TaskReceives session b old new). role_of_gets k.gets)
      tells.1
  same_role (turn.Waits (why.Full peer sent taken)) tells = let w = tells.1 in role_by w.at (sight_of_stage new.stage) old.stage new.stage (ap sight_of_stage w.stands) refl
      (ap (λ (s : Stage). (sight_of_stage s).role) w.stays ∙ ap (λ (s : Stage_data). s.role) w.full.full.becomes)
  same_role (turn.Waits (why.Empty peer seen)) tells = let w = tells.1 in role_by w.at (sight_of_stage new.stage) old.stage new.stage (ap sight_of_stage w.stands) refl
      (ap (λ (s : Stage). (sight_of_stage s).role) w.stays ∙ ap (λ (s : Stage_data). s.role) w.empty.empty.becomes)
  same_role turn.Ended tells = ap (λ (k : Task_data A). (sight_of_stage k.stage).role) tells.0.same
  same_role turn.AtLimit tells = ap (λ (k : Task_data A). (sight_of_stage k.stage).role) tells.0.same
  same_role turn.NoMemory tells = refused tells
    where
      refused : TaskIsRefused session old new → (sight_of_stage new.stage).role ≡ (sight_of_stage old.stage).role
      refused (Before was is) = ap (λ (k : Task_data A). (sight_of_stage k.stage).role) is
      refused (Asked was v) = ap (λ (k : Task_data A). (sight_of_stage k.stage).role) v.same
      refused (Told was v) = role_of_gets v.gets

  -- and the limit
  pub same_limit : (t : Turn) → TaskTurnTells session b old new t → new.limit ≡ old.limit
  same_limit turn.Moved tells = tells.0.limit
  same_limit (turn.Waits (why.Full peer sent taken)) tells = tells.0.limit
  same_limit (turn.Waits (why.Empty peer seen)) tells = tells.0.limit
  same_limit turn.Ended tells = ap (λ (k : Task_data A). k.limit) tells.0.same
  same_limit turn.AtLimit tells = ap (λ (k : Task_data A). k.limit) tells.0.same
  same_limit turn.NoMemory tells = refused tells
    where
      refused : TaskIsRefused session old new → new.limit ≡ old.limit
      refused (Before was is) = ap (λ (k : Task_data A). k.limit) is
      refused (Asked was v) = ap (λ (k : Task_data A). k.limit) v.same
      refused (Told was v) = v.limit

  -- there are no more acts than the limit
  pub few_acts : (most : ℕ) (t : Turn) → old.limit ≡ most → length old.transcript ≤ most → TaskTurnTells session b old new t → length new.transcript ≤ most
  few_acts most turn.Moved same few tells = ⊎_elim
      (λ (k : task.TaskSends session b old new). one_more old.transcript new.transcript _ old.limit most k.transcript tells.0.below same)
      (λ (k : task.TaskReceives session b old new). one_more old.transcript new.transcript _ old.limit most k.gets.transcript tells.0.below same)
      tells.1
  few_acts most (turn.Waits (why.Full peer sent taken)) same few tells = as_many old.transcript new.transcript most tells.1.transcript few
  few_acts most (turn.Waits (why.Empty peer seen)) same few tells = as_many old.transcript new.transcript most tells.1.transcript few
  few_acts most turn.Ended same few tells = as_many old.transcript new.transcript most (ap (λ (k : Task_data A). k.transcript) tells.0.same) few
  few_acts most turn.AtLimit same few tells = as_many old.transcript new.transcript most (ap (λ (k : Task_data A). k.transcript) tells.0.same) few
  few_acts most turn.NoMemory same few tells = refused tells
    where
      refused : TaskIsRefused session old new → length new.transcript ≤ most
      refused (Before was is) = as_many old.transcript new.transcript most (ap (λ (k : Task_data A). k.transcript) is) few
      refused (Asked was v) = as_many old.transcript new.transcript most (ap (λ (k : Task_data A). k.transcript) v.same) few
      refused (Told was v) = one_more old.transcript new.transcript _ old.limit most v.gets.transcript v.below same

-- the task stays one that began so
module _ {A : Type 0} (b : Behaviour A) (begun : Begun A) where
  on : (t : Turn) (old new : Task_data A) → t ≢ turn.NoMemory → TaskTurnTells begun.session b old new t → IfSome begun.given (λ x. PlaysTask begun.session b x old)
      → IfSome begun.given (λ x. PlaysTask begun.session b x new)
  on t old new ne tells so =
      if_some_map begun.given (λ (x : A). PlaysTask begun.session b x old) (λ (x : A). PlaysTask begun.session b x new) (λ x was. plays_on b begun.session x old new t ne tells was) so

  on_unrefused : (t : Turn) (old new : Task_data A) → TaskTurnTells begun.session b old new t → (old.failed ≡ false → IfSome begun.given (λ x. PlaysTask begun.session b x old)) → new.failed ≡ false
      → IfSome begun.given (λ x. PlaysTask begun.session b x new)
  on_unrefused turn.Moved old new tells so well = on turn.Moved old new (λ e. cc (e)) tells (so tells.0.was)
  on_unrefused (turn.Waits (why.Full peer sent taken)) old new tells so well = on (turn.Waits (why.Full peer sent taken)) old new (λ e. cc (e)) tells (so tells.0.was)
  on_unrefused (turn.Waits (why.Empty peer seen)) old new tells so well = on (turn.Waits (why.Empty peer seen)) old new (λ e. cc (e)) tells (so tells.0.was)
  on_unrefused turn.Ended old new tells so well = on turn.Ended old new (λ e. cc (e)) tells (so tells.0.was)
  on_unrefused turn.AtLimit old new tells so well = on turn.AtLimit old new (λ e. cc (e)) tells (so tells.0.was)
  on_unrefused turn.NoMemory old new tells so well = absurd (true≢false (sym (refused tells) ∙ well))
    where
      refused : TaskIsRefused begun.session old new → new.failed ≡ true
      refused (Before was is) = ap (λ (k : Task_data A). k.failed) is ∙ was
      refused (Asked was v) = ap (λ (k : Task_data A). k.failed) v.same
      refused (Told was v) = v.failed

  pub still_from : (t : Turn) (old new : Task_data A) → IsTaskFrom b begun old → IsTaskOf begun.session new → TaskTurnTells begun.session b old new t → IsTaskFrom b begun new
  still_from t old new from of tells = record {
    of = of;
    role = same_role b begun.session old new t tells ∙ from.role;
    limit = same_limit b begun.session old new t tells ∙ from.limit;
    acts = few_acts b begun.session old new begun.limit t from.limit from.acts tells;
    plays = on_unrefused t old new tells from.plays;
  }

-- a task that has made no turn
module _ {A : Type 0} (b : Behaviour A) (session : Rings_data) where
  keeps_nothing : (task : Task_data A) (kept : Option Choice) → kept ≡ None → IfSome kept (λ choice. SendsBy session (sight_of_stage task.stage) choice.0 choice.1)
  keeps_nothing task None none = tt
  keeps_nothing task (Some choice) none = absurd (cc (none))

  pub began_so : (machine : Machine_data) (task : Task_data A) → IsOf session task.stage → RunsMachine session (sight_of_stage task.stage) machine → (sight_of_stage task.stage).part.history ≡ []
      → (sight_of_stage task.stage).part.state ≡ machine.start → task.kept ≡ None → task.transcript ≡ []
      → IsTaskFrom b (begun_by session task) task
  began_so machine task of runs none start kept nothing = record {
    of = record { of = of; keeps = keeps_nothing task task.kept kept };
    role = refl;
    limit = refl;
    acts = (let many : length task.transcript ≡ 0 = ap length nothing in omega arith);
    plays = λ well. plays_nothing_yet b session machine task runs none start kept;
  }
