-- Jobs that have just been made are what the table of jobs begins with.
use Rattle.std.proofs.Common.{◌≡◌, ℕ, ◌<◌, ◌≤◌, List, length, map, slice_get, All, IfSome, Option, Some, sym, ap, ◌∙◌, subst, arith, zero-le}
use Rattle.std.proofs.lemmas.Option.{same_Some, slice_get_within}
use mathlib.Core.Option.{some}
use lib.ListN.{get_elem?, length-map}
use Rattle.atomic_table.proofs.Lists.{at_map}
use Rattle.rs_core.specs.Actors.{Behaviour, Choice}
use Rattle.rs_core.specs.declared.transcripts.Entry.{Entry}
use Rattle.rs_core.proofs.Ends.{get_there}
use Rattle.rs_exec.proofs.PlayedOn.{plays_nothing}
use Rattle.rs_exec.specs.Tasks.{PlaysTask}
use Rattle.rs_rings.specs.Passes.{Rings_data}
use Rattle.rs_session.specs.Acts.{SendsBy}
use Rattle.rs_session.specs.Data.{Stage_data}
use Rattle.rs_session.specs.Ends.{AreAllThere, AreOf}
use Rattle.rs_session.specs.Stages.{AreFirst, IsOf, first_stage, sight_of_stage}
use Rattle.rs_session.specs.declared.stages.Stage.{Stage}
use Rattle.rs_pool.proofs.Lists.{elem_of, of_elem, get_map, all_at, all_from}
use Rattle.rs_pool.proofs.Bounds.{map_at}
use Rattle.rs_pool.specs.Calls.{AreSeated}
use Rattle.rs_pool.specs.Jobs.{Start, JobFits, HasDoneNothing, JobIsNew, TaskStands, actors_of, stages_of}
use Rattle.rs_pool.specs.declared.jobs.Job.{Job}
use Rattle.rs_pool.specs.declared.jobs.Progress.{Progress}

-- first stages have done nothing, and are stages of the session, one of each role
pub first_nothing : (session : Rings_data) (stages : List Stage) → AreFirst session stages → All HasDoneNothing stages
first_nothing session stages first = all_from HasDoneNothing stages (λ i stage at.
    let l = slice_get_within stages i stage at in
    let f = first.each i (let e = first.count in omega arith) in
    let same : f.0 ≡ stage = same_Some f.0 stage (sym f.1 ∙ at) in
    ap (λ (z : Stage). (sight_of_stage z).part.history) (sym same) ∙ ap (λ (d : Stage_data). d.part.history) f.3)

pub first_of : (session : Rings_data) (stages : List Stage) → AreFirst session stages → AreOf session stages
first_of session stages first i stage at =
    let l = slice_get_within stages i stage at in
    let f = first.each i (let e = first.count in omega arith) in
    subst (IsOf session) (same_Some f.0 stage (sym f.1 ∙ at)) f.2

pub first_there : (session : Rings_data) (stages : List Stage) → AreFirst session stages → AreAllThere (length session.machines) (map sight_of_stage stages)
first_there session stages first r l = let f = first.each r l in record {
  place = r;
  stage = sight_of_stage f.0;
  stands = get_map sight_of_stage stages r f.0 f.1;
  role = ap (λ (d : Stage_data). d.role.0) f.3;
}

module _ {A : Type 0} (b : Behaviour A) where
  abbrev start_of : Rings_data → ℕ → List (Job A) → Start A
  start_of session most jobs = record { session = session; limit = most; given = actors_of jobs }

  fits : (session : Rings_data) (stages : List Stage) (most : ℕ) (jobs : List (Job A)) → AreFirst session stages → stages_of jobs ≡ stages → All (JobIsNew most) jobs
      → (r : ℕ) (job : Job A) → r < length session.machines → slice_get jobs r ≡ Some job → JobFits b (start_of session most jobs) r job
  fits session stages most jobs first same news r job low at =
      let new = all_at (JobIsNew most) jobs r job news at in
      let f = first.each r low in
      let here : slice_get stages r ≡ Some job.task.stage = ap (λ (l : List Stage). slice_get l r) (sym same) ∙ get_map (λ (j : Job A). j.task.stage) jobs r job at in
      let own : f.0 ≡ job.task.stage = same_Some f.0 job.task.stage (sym f.1 ∙ here) in
      let shows : sight_of_stage job.task.stage ≡ first_stage session r = ap sight_of_stage (sym own) ∙ f.3 in
      let m = get_there session.machines r low in
      let actor : slice_get (actors_of jobs) r ≡ Some job.task.actor = get_map (λ (j : Job A). j.task.actor) jobs r job at in
      let so : PlaysTask session b job.task.actor job.task = plays_nothing b session r m.0 job.task m.1 shows new.kept in record {
        of = record {
          of = subst (IsOf session) own f.2;
          keeps = subst (λ (k : Option Choice). IfSome k (λ choice. SendsBy session (sight_of_stage job.task.stage) choice.0 choice.1)) (sym new.kept) tt;
        };
        role = ap (λ (d : Stage_data). d.role) shows;
        limit = new.limit;
        acts = subst (λ (es : List Entry). length es ≤ most) (sym new.transcript) zero-le;
        stands = subst (λ (p : Progress). TaskStands b (start_of session most jobs) r p job.task) (sym new.progress)
            (subst (λ (o : Option A). IfSome o (λ (x : A). PlaysTask session b x job.task)) (sym actor) so);
      }

  pub begun : (session : Rings_data) (stages : List Stage) (most : ℕ) (jobs : List (Job A)) → AreFirst session stages → stages_of jobs ≡ stages → All (JobIsNew most) jobs
      → AreSeated (JobFits b (start_of session most jobs)) (length session.machines) (map Some jobs)
  begun session stages most jobs first same news =
      let many : length jobs ≡ length session.machines = sym (length-map jobs (λ (j : Job A). j.task.stage)) ∙ ap length same ∙ first.count in record {
        count = length-map jobs Some ∙ many;
        tasks = λ r l. let j = get_there jobs r (subst (λ (z : ℕ). r < z) (sym many) l) in
            (j.0, at_map Some jobs r j.0 (elem_of jobs r j.0 j.1), fits session stages most jobs first same news r j.0 l j.1);
      }

-- the jobs in the slots at the start
pub begun_count : {T : Type 0} (JobFits : ℕ → T → Type 0) (n : ℕ) (xs : List (Option T)) (js : List T) → AreSeated JobFits n xs → xs ≡ map Some js → length js ≡ n
begun_count JobFits n xs js begins is = sym (length-map js Some) ∙ ap length (sym is) ∙ begins.count

pub begun_fits : {T : Type 0} (JobFits : ℕ → T → Type 0) (n : ℕ) (xs : List (Option T)) (js : List T) → AreSeated JobFits n xs → xs ≡ map Some js → (r : ℕ) (t : T) → slice_get js r ≡ Some t
    → JobFits r t
begun_fits {T} JobFits n xs js begins is r t at =
    let l = slice_get_within js r t at in
    let c = begun_count JobFits n xs js begins is in
    let k = begins.tasks r (omega arith) in
    let there : get_elem? js r ≡ some k.0 = map_at js r k.0 (ap (λ (ys : List (Option T)). get_elem? ys r) (sym is) ∙ k.1) in
    subst (JobFits r) (same_Some k.0 t (sym (of_elem js r k.0 there) ∙ at)) k.2
