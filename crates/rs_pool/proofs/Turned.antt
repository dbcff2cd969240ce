-- What a turn leaves of a job.
use Rattle.std.proofs.Common.{◌≡◌, ◌≢◌, ℕ, ◌≤◌, true, false, true≢false, slice_get, length, refl, sym, ap, ◌∙◌, subst, inl, inr}
use Rattle.rs_core.specs.Actors.{Behaviour}
use Rattle.rs_exec.specs.Data.{Task_data}
use Rattle.rs_exec.specs.Tasks.{IsTaskOf, PlaysTask, TaskTurnTells, HasEnded, TaskIsRefused, Before, Asked, Told}
use Rattle.rs_exec.specs.declared.tasks.Turn.{Turn}
use Rattle.rs_exec.specs.declared.tasks.Turn.TheVariants as turn
use Rattle.rs_exec.specs.declared.tasks.Why.TheVariants as why
use Rattle.rs_exec.proofs.PlayedOn.{plays_on}
use Rattle.rs_exec.proofs.Stayed.{few_acts, if_some_map, same_limit, same_role}
use Rattle.rs_pool.specs.declared.jobs.Job.{Job}
use Rattle.rs_pool.specs.declared.jobs.Progress.{Progress}
use Rattle.rs_pool.specs.declared.jobs.Progress.TheVariants.{Underway, Ended, AtLimit, Refused}
use Rattle.rs_pool.specs.Jobs.{Start, JobFits, TaskStands, PlaysGiven, Over, amount_of, progress_after}
use Rattle.rs_pool.specs.Rule.{IsAmount}

module _ {A : Type 0} (b : Behaviour A) (start : Start A) (r : ℕ) where
  -- a task that isn't refused memory plays on
  plays_of : (p : Progress) (task : Task_data A) → task.failed ≡ false → TaskStands b start r p task → PlaysGiven b start r task
  plays_of Underway task well so = so
  plays_of Ended task well so = so.0
  plays_of AtLimit task well so = so.0
  plays_of Refused task well so = absurd (true≢false (sym so ∙ well))

  on : (t : Turn) (old new : Task_data A) → t ≢ turn.NoMemory → TaskTurnTells start.session b old new t → PlaysGiven b start r old → PlaysGiven b start r new
  on t old new ne tells so =
      if_some_map (slice_get start.given r) (λ (x : A). PlaysTask start.session b x old) (λ (x : A). PlaysTask start.session b x new) (λ x was. plays_on b start.session x old new t ne tells was) so

  stands_on : (t : Turn) (p : Progress) (old new : Task_data A) → TaskTurnTells start.session b old new t → TaskStands b start r p old → TaskStands b start r (progress_after t) new
  stands_on turn.Moved p old new tells so = on turn.Moved old new (λ e. cc (e)) tells (plays_of p old tells.0.was so)
  stands_on (turn.Waits (why.Full peer sent taken)) p old new tells so = on (turn.Waits (why.Full peer sent taken)) old new (λ e. cc (e)) tells (plays_of p old tells.0.was so)
  stands_on (turn.Waits (why.Empty peer seen)) p old new tells so = on (turn.Waits (why.Empty peer seen)) old new (λ e. cc (e)) tells (plays_of p old tells.0.was so)
  stands_on turn.Ended p old new tells so = (on turn.Ended old new (λ e. cc (e)) tells (plays_of p old tells.0.was so), subst HasEnded (ap (λ (k : Task_data A). k.stage) (sym tells.0.same)) tells.1)
  stands_on turn.AtLimit p old new tells so = (
    on turn.AtLimit old new (λ e. cc (e)) tells (plays_of p old tells.0.was so),
    (λ ended. tells.1 (subst HasEnded (ap (λ (k : Task_data A). k.stage) tells.0.same) ended)),
    subst (λ (k : Task_data A). k.limit ≤ length k.transcript) (sym tells.0.same) tells.2,
  )
  stands_on turn.NoMemory p old new tells so = refused tells
    where
      refused : TaskIsRefused start.session old new → new.failed ≡ true
      refused (Before was is) = ap (λ (k : Task_data A). k.failed) is ∙ was
      refused (Asked was v) = ap (λ (k : Task_data A). k.failed) v.same
      refused (Told was v) = v.failed

  pub turned : (t : Turn) (old new : Job A) → JobFits b start r old → IsTaskOf start.session new.task → TaskTurnTells start.session b old.task new.task t → new.progress ≡ progress_after t
      → JobFits b start r new
  turned t old new fits of tells is = record {
    of = of;
    role = same_role b start.session old.task new.task t tells ∙ fits.role;
    limit = same_limit b start.session old.task new.task t tells ∙ fits.limit;
    acts = few_acts b start.session old.task new.task start.limit t fits.limit fits.acts tells;
    stands = subst (λ (p : Progress). TaskStands b start r p new.task) (sym is) (stands_on t old.progress old.task new.task tells fits.stands);
  }

-- what is counted for a job says how far it has come
over_by : {A : Type 0} (p : Progress) (job : Job A) → job.progress ≡ p → IsAmount (amount_of p) × Over (amount_of p) job
over_by Underway job is = (inl refl, tt)
over_by Ended job is = (inr (inl refl), is)
over_by AtLimit job is = (inr (inr refl), inl is)
over_by Refused job is = (inr (inr refl), inr is)

pub over : {A : Type 0} (job : Job A) → IsAmount (amount_of job.progress) × Over (amount_of job.progress) job
over job = over_by job.progress job refl
