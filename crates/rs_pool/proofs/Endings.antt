-- What the jobs that come back say of the run: its stages are all of one session, and what they did is a run of the actors.
use Rattle.std.proofs.Common.{◌≡◌, ◌≢◌, ℕ, ◌<◌, List, length, map, get_or, slice_get, All, Some, refl, sym, ap, ◌∙◌, subst, arith}
use Rattle.std.proofs.lemmas.Option.{get_or_from_slice_get, same_Some, slice_get_within}
use lib.ListN.{length-map}
use Rattle.rs_model.specs.Data.{Machine_data}
use Rattle.rs_model.specs.declared.graph.Role.{Role}
use Rattle.rs_model.specs.declared.machines.State.TheVariants.{Done}
use Rattle.rs_core.specs.Actors.{Behaviour, ChoosesWell, Plays}
use Rattle.rs_core.specs.Choices.{AreWellFormed}
use Rattle.rs_core.specs.Configurations.{Configuration, state_of}
use Rattle.rs_core.specs.Determined.{IsRun, EndsWith}
use Rattle.rs_core.specs.Histories.{History, IsLegal, transcript_of, entry_of}
use Rattle.rs_core.specs.Plain as plain
use Rattle.rs_core.specs.Plain.{Ending}
use Rattle.rs_core.specs.Runs.{HasTranscripts, IsGiven, EndingShows}
use Rattle.rs_core.specs.Safety.{AllEnded, IsSafe}
use Rattle.rs_core.specs.declared.runs.Outcome.{Outcome}
use Rattle.rs_core.specs.declared.runs.Outcome.TheVariants as outcome
use Rattle.rs_core.specs.declared.transcripts.Entry.{Entry}
use Rattle.rs_core.proofs.Determined.{determined_ended, determined_stopped}
use Rattle.rs_core.proofs.Ends.{get_there}
use Rattle.rs_exec.proofs.PlayedOn.{plays_history}
use Rattle.rs_exec.specs.Data.{Task_data}
use Rattle.rs_exec.specs.Runs.{IsOutcomeOf, IsSessionOfRun}
use Rattle.rs_exec.specs.Tasks.{HasEnded, PlaysTask}
use Rattle.rs_rings.specs.Closed.{Closed_data, IsLeft, IsOver}
use Rattle.rs_rings.specs.Passes.{Rings_data}
use Rattle.rs_rings.specs.Views.{history_in, part_of}
use Rattle.rs_rings.specs.declared.views.Part.{Part}
use Rattle.rs_session.specs.Data.{Stage_data}
use Rattle.rs_session.specs.Ends.{AreAll, AreAllThere, AreOf, KnowsFrom}
use Rattle.rs_session.specs.Stages.{IsEnded, IsOf, sight_of_stage}
use Rattle.rs_session.specs.declared.stages.Stage.{Stage}
use Rattle.rs_session.specs.declared.stages.Stage.TheVariants.{Sending, Receiving, Ended}
use Rattle.rs_pool.proofs.Lists.{all_at, get_map, if_some_at, map_back}
use Rattle.rs_pool.specs.Jobs.{Start, JobFits, HasItsTranscript, PlaysGiven, TaskStands, actors_of, stages_of, transcripts_of}
use Rattle.rs_pool.specs.Pool.{AgreesWithPlain}
use Rattle.rs_pool.specs.declared.jobs.Job.{Job}
use Rattle.rs_pool.specs.declared.jobs.Progress.{Progress}
use Rattle.rs_pool.specs.declared.jobs.Progress.TheVariants as progress

-- a stage that hasn't ended doesn't stand at the end of its machine
not_done : (session : Rings_data) (stage : Stage) → IsOf session stage → (HasEnded stage → ⊥)
    → state_of (slice_get session.machines (sight_of_stage stage).role.0) (sight_of_stage stage).part.state ≢ Some Done
not_done session (Sending s) of goes e = cc (of.stands, e)
not_done session (Receiving s) of goes e = cc (of.stands, e)
not_done session (Ended s) of goes e = goes tt

ended_is : (session : Rings_data) (stage : Stage) → IsOf session stage → HasEnded stage → IsEnded session (sight_of_stage stage)
ended_is session (Sending s) of ended = absurd ended
ended_is session (Receiving s) of ended = absurd ended
ended_is session (Ended s) of ended = of

module _ {A : Type 0} (b : Behaviour A) (start : Start A) where
  plays_of : (r : ℕ) (p : Progress) (task : Task_data A) → p ≢ progress.Refused → TaskStands b start r p task → PlaysGiven b start r task
  plays_of r progress.Underway task ne so = so
  plays_of r progress.Ended task ne so = so.0
  plays_of r progress.AtLimit task ne so = so.0
  plays_of r progress.Refused task ne so = absurd (ne refl)

  abbrev NoneRefused : List (Job A) → Type 0
  NoneRefused jobs = (r : ℕ) (job : Job A) → slice_get jobs r ≡ Some job → job.progress ≢ progress.Refused

  module _ (n : ℕ) (jobs : List (Job A)) (count : length jobs ≡ n) (fits_at : (r : ℕ) (job : Job A) → slice_get jobs r ≡ Some job → JobFits b start r job) (many : n ≡ length start.session.machines)
    where
      job_at : (r : ℕ) → r < n → (job : Job A) × (slice_get jobs r ≡ Some job)
      job_at r l = get_there jobs r (omega (arith, count))

      stage_at : (r : ℕ) (stage : Stage) → slice_get (stages_of jobs) r ≡ Some stage → (job : Job A) × (slice_get jobs r ≡ Some job) × (job.task.stage ≡ stage)
      stage_at r stage at = map_back (λ (j : Job A). j.task.stage) jobs r stage at

      pub are_of : AreOf start.session (stages_of jobs)
      are_of place stage at = let s = stage_at place stage at in subst (IsOf start.session) s.2 (fits_at place s.0 s.1).of.of

      pub all_there : AreAllThere n (map sight_of_stage (stages_of jobs))
      all_there r l = let j = job_at r l in record {
        place = r;
        stage = sight_of_stage j.0.task.stage;
        stands = get_map sight_of_stage (stages_of jobs) r j.0.task.stage (get_map (λ (k : Job A). k.task.stage) jobs r j.0 j.1);
        role = ap (λ (x : Role). x.0) (fits_at r j.0 j.1).role;
      }

      pub are_all_ended : All HasEnded (stages_of jobs) → AreAll (IsEnded start.session) (map sight_of_stage (stages_of jobs))
      are_all_ended over place stage at =
          let s = map_back sight_of_stage (stages_of jobs) place stage at in
          subst (IsEnded start.session) s.2 (ended_is start.session s.0 (are_of place s.0 s.1) (all_at HasEnded (stages_of jobs) place s.0 over s.1))

      module _ (closed : Closed_data) (same : closed.machines ≡ start.session.machines) (knows : KnowsFrom (map sight_of_stage (stages_of jobs)) closed) where
        part_is : (r : ℕ) (job : Job A) → slice_get jobs r ≡ Some job → part_of closed.last r ≡ (sight_of_stage job.task.stage).part
        part_is r job at =
            let low : r < n = (let l = slice_get_within jobs r job at in omega (arith, count, many)) in
            let k = knows r (subst (λ (z : ℕ). r < z) (many ∙ ap length (sym same)) low) in
            let s = map_back sight_of_stage (stages_of jobs) k.0.place k.0.stage k.0.stands in
            let t = stage_at k.0.place s.0 s.1 in
            let f = fits_at k.0.place t.0 t.1 in
            let here : k.0.place ≡ r = sym (ap (λ (x : Role). x.0) f.role) ∙ ap (λ (z : Stage). (sight_of_stage z).role.0) t.2 ∙ ap (λ (d : Stage_data). d.role.0) s.2 ∙ k.0.role in
            let own : t.0 ≡ job = same_Some t.0 job (sym t.1 ∙ ap (slice_get jobs) here ∙ at) in
            k.1 ∙ ap (λ (d : Stage_data). d.part) (sym s.2) ∙ ap (λ (z : Stage). (sight_of_stage z).part) (sym t.2) ∙ ap (λ (j : Job A). (sight_of_stage j.task.stage).part) own

        history_is : (r : ℕ) (job : Job A) → slice_get jobs r ≡ Some job → history_in closed.last r ≡ (sight_of_stage job.task.stage).part.history
        history_is r job at = ap (λ (x : Part). x.history) (part_is r job at)

        few_at : All HasItsTranscript jobs → (r : ℕ) (job : Job A) → slice_get jobs r ≡ Some job → length (history_in closed.last r) ≡ length job.task.transcript
        few_at its r job at = ap length (history_is r job at) ∙ sym (length-map (sight_of_stage job.task.stage).part.history entry_of) ∙ ap length (sym (all_at HasItsTranscript jobs r job its at))

        played_at : (r : ℕ) (job : Job A) (m : Machine_data) (x : A) → NoneRefused jobs → slice_get jobs r ≡ Some job → slice_get start.session.machines r ≡ Some m → slice_get start.given r ≡ Some x
            → Plays b m x (history_in closed.last r) job.task.kept job.task.actor
        played_at r job m x none at runs gives =
            let f = fits_at r job at in
            let so : PlaysTask start.session b x job.task = if_some_at (slice_get start.given r) x (λ (z : A). PlaysTask start.session b z job.task) gives
            (plays_of r job.progress job.task (none r job at) f.stands) in
            let is : so.machine ≡ m = same_Some so.machine m (sym so.runs ∙ ap (λ (z : Role). slice_get start.session.machines z.0) f.role ∙ runs) in
            subst (λ (k : Machine_data). Plays b k x (history_in closed.last r) job.task.kept job.task.actor) is
            (subst (λ (h : History). Plays b so.machine x h job.task.kept job.task.actor) (sym (history_is r job at)) (plays_history b start.session x job.task so))

        pub session_of : (end : Configuration) (o : Outcome) → NoneRefused jobs → All HasItsTranscript jobs → IsLegal closed.machines (history_in closed.last) end
            → IsOutcomeOf start.session.machines start.limit (history_in closed.last) end o → IsSessionOfRun start.session.machines b start.given start.limit closed o (actors_of jobs)
        session_of end o none its legal comes = record {
          same_machines = same;
          end = end;
          legal = subst (λ (ms : List Machine_data). IsLegal ms (history_in closed.last) end) same legal;
          bounded = λ r l. let j = job_at r (subst (λ (z : ℕ). r < z) (sym many) l) in let e = few_at its r j.0 j.1 in let f = (fits_at r j.0 j.1).acts in omega arith;
          played = record {
            many = length-map jobs (λ (j : Job A). j.task.actor) ∙ count ∙ many;
            each = λ r m x y runs gives left.
                let j = map_back (λ (k : Job A). k.task.actor) jobs r y left in
                (j.0.task.kept, subst (λ (z : A). Plays b m x (history_in closed.last r) j.0.task.kept z) j.2 (played_at r j.0 m x none j.1 runs gives));
          };
          comes_to = comes;
        }

        transcripts_are : All HasItsTranscript jobs → HasTranscripts (length start.session.machines) (history_in closed.last) (transcripts_of jobs)
        transcripts_are its = record {
          many = length-map jobs (λ (j : Job A). j.task.transcript) ∙ count ∙ many;
          each = λ r l. let j = job_at r (subst (λ (z : ℕ). r < z) (sym many) l) in
              get_map (λ (k : Job A). k.task.transcript) jobs r j.0 j.1 ∙ ap Some (all_at HasItsTranscript jobs r j.0 its j.1 ∙ ap transcript_of (sym (history_is r j.0 j.1)));
        }

        pub session_ended : NoneRefused jobs → All HasItsTranscript jobs → IsOver closed
            → IsSessionOfRun start.session.machines b start.given start.limit closed (outcome.Ended (transcripts_of jobs)) (actors_of jobs)
        session_ended none its over = session_of over.end (outcome.Ended (transcripts_of jobs)) none its over.legal
            (subst (λ (ms : List Machine_data). AllEnded ms over.end) same over.ended, transcripts_are its)

        pub session_stopped : (role : Role) (job : Job A) → slice_get jobs role.0 ≡ Some job → job.progress ≡ progress.AtLimit → NoneRefused jobs → All HasItsTranscript jobs → IsLeft closed
            → IsSessionOfRun start.session.machines b start.given start.limit closed (outcome.Stopped role) (actors_of jobs)
        session_stopped role job at is none its left =
            let r = role.0 in
            let f = fits_at r job at in
            let low : r < length start.session.machines = (let l = slice_get_within jobs r job at in omega (arith, count, many)) in
            let stands : TaskStands b start r progress.AtLimit job.task = subst (λ (p : Progress). TaskStands b start r p job.task) is f.stands in
            let there : r < length closed.machines = subst (λ (ms : List Machine_data). r < length ms) (sym same) low in
            let state : left.end.at r ≡ (sight_of_stage job.task.stage).part.state = left.states r there ∙ ap (λ (x : Part). x.state) (part_is r job at) in
            session_of left.end (outcome.Stopped role) none its left.legal record {
              present = low;
              acts = (let e = few_at its r job at in let a = f.acts in let l = f.limit in let m = stands.2 in omega arith);
              goes_on = λ e. not_done start.session job.task.stage f.of.of stands.1
                  (ap (λ (x : Role). state_of (slice_get start.session.machines x.0) (sight_of_stage job.task.stage).part.state) f.role
                  ∙ ap (λ (z : ℕ). state_of (slice_get start.session.machines r) z) (sym state) ∙ e);
            }

-- what a run comes to, whatever the order of its turns, is what the plain run comes to
module _ {A : Type 0} (b : Behaviour A) (well : ChoosesWell b) (ms : List Machine_data) (safe : IsSafe ms) (wf : AreWellFormed ms) where
  module _ (actors left : List A) (limit : ℕ) (closed : Closed_data) (o : Outcome) (s : IsSessionOfRun ms b actors limit closed o left) (count : length actors ≡ length ms) (given : ℕ → A)
      (is : IsGiven given actors) where
    after : ℕ → A
    after p = get_or left p (given p)

    after_is : (p : ℕ) (y : A) → slice_get left p ≡ Some y → after p ≡ y
    unfolding after
    after_is p y at = get_or_from_slice_get left p y (given p) at

    is_run : IsRun ms b given limit (history_in closed.last) s.end after
    is_run = record {
      legal = s.legal;
      played = λ p m runs.
          let low = slice_get_within ms p m runs in
          let x = get_there actors p (omega (arith, count)) in
          let y = get_there left p (let e = s.played.many in omega arith) in
          let k = s.played.each p m x.0 y.0 runs x.1 y.1 in (
            k.0,
            subst (λ (z : A). Plays b m z (history_in closed.last p) k.0 (after p)) (sym (is p x.0 x.1))
                (subst (λ (z : A). Plays b m x.0 (history_in closed.last p) k.0 z) (sym (after_is p y.0 y.1)) k.1),
          );
      bounded = s.bounded;
    }

    shows : (transcripts : List (List Entry)) → HasTranscripts (length ms) (history_in closed.last) transcripts → (e : Ending A) → EndsWith ms (history_in closed.last) after e
        → EndingShows (length ms) e (outcome.Ended transcripts) left
    shows transcripts has (plain.Ended k) same = (
      record { many = has.many; each = λ p l. has.each p l ∙ ap (λ (h : History). Some (transcript_of h)) (sym (same p l).0) },
      record {
        many = s.played.many;
        each = λ p l. let y = get_there left p (let e = s.played.many in omega arith) in y.1 ∙ ap Some (sym (after_is p y.0 y.1) ∙ sym (same p l).1);
      },
    )
    shows transcripts has (plain.Stopped p k) same = absurd same
    shows transcripts has (plain.Stuck k) same = absurd same

    agrees_by : (e : Outcome) → IsOutcomeOf ms limit (history_in closed.last) s.end e → AgreesWithPlain ms b given limit e left
    agrees_by (outcome.Ended transcripts) comes =
        let d = determined_ended b well ms given limit (history_in closed.last) s.end after safe wf is_run comes.0 in
        record { some = d.some; each = λ e p. shows transcripts comes.1 e (d.each e p) }
    agrees_by (outcome.Stopped role) comes = determined_stopped b well ms given limit (history_in closed.last) s.end after safe wf is_run role.0 comes.present (let e = comes.acts in omega arith)
        comes.goes_on

    pub agrees : AgreesWithPlain ms b given limit o left
    agrees = agrees_by o s.comes_to
