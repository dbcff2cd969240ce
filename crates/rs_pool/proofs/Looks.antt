-- What the progress of the jobs that come back says of the outcome.
use Rattle.std.proofs.Common.{◌≡◌, ◌≢◌, ◌⊎◌, ℕ, zero, suc, ◌+◌, Bool, true, false, true≢false, if◌then◌else◌, List, [], ◌∷◌, slice_get, All, Some, None, refl, sym, ap, ◌∙◌, subst, inl, inr, ⊎_elim}
use Rattle.std.proofs.Common.{arith}
use Rattle.std.proofs.lemmas.Option.{same_Some}
use Rattle.rs_core.specs.Actors.{Behaviour}
use Rattle.rs_exec.specs.Tasks.{HasEnded}
use Rattle.rs_pool.proofs.Lists.{elem_of, of_elem, map_back, all_from}
use Rattle.rs_pool.specs.Calls.{AreCollected}
use Rattle.rs_pool.specs.Jobs.{Start, JobFits, Over, TaskStands, first_with, is_same, stages_of}
use Rattle.rs_pool.specs.declared.jobs.Job.{Job}
use Rattle.rs_pool.specs.declared.jobs.Progress.{Progress}
use Rattle.rs_pool.specs.declared.jobs.Progress.TheVariants.{Underway, Ended, AtLimit, Refused}

bool_cases : (x : Bool) → (x ≡ true) ⊎ (x ≡ false)
bool_cases true = inl refl
bool_cases false = inr refl

same_is : (p q : Progress) → is_same p q ≡ true → p ≡ q
same_is Underway Underway e = refl
same_is Ended Ended e = refl
same_is AtLimit AtLimit e = refl
same_is Refused Refused e = refl
same_is Underway Ended e = absurd (true≢false (sym e))
same_is Underway AtLimit e = absurd (true≢false (sym e))
same_is Underway Refused e = absurd (true≢false (sym e))
same_is Ended Underway e = absurd (true≢false (sym e))
same_is Ended AtLimit e = absurd (true≢false (sym e))
same_is Ended Refused e = absurd (true≢false (sym e))
same_is AtLimit Underway e = absurd (true≢false (sym e))
same_is AtLimit Ended e = absurd (true≢false (sym e))
same_is AtLimit Refused e = absurd (true≢false (sym e))
same_is Refused Underway e = absurd (true≢false (sym e))
same_is Refused Ended e = absurd (true≢false (sym e))
same_is Refused AtLimit e = absurd (true≢false (sym e))

is_itself : (p : Progress) → is_same p p ≡ true
is_itself Underway = refl
is_itself Ended = refl
is_itself AtLimit = refl
is_itself Refused = refl

module _ {A : Type 0} (p : Progress) where
  first_there : (i : ℕ) (jobs : List (Job A)) (r : ℕ) → first_with p i jobs ≡ Some r → (k : ℕ) × (job : Job A) × (r ≡ k + i) × (slice_get jobs k ≡ Some job) × (job.progress ≡ p)
  first_there i [] r e = absurd (cc (e))
  first_there i (j ∷ js) r e = ⊎_elim
      (λ h. let is : i ≡ r = same_Some i r (subst (λ (x : Bool). (if x then Some i else first_with p (i + 1) js) ≡ Some r) h e) in (0, j, omega arith, refl, same_is j.progress p h))
      (λ h. let t = first_there (i + 1) js r (subst (λ (x : Bool). (if x then Some i else first_with p (i + 1) js) ≡ Some r) h e) in let q = t.2 in (suc t.0, t.1, omega arith, t.3, t.4))
      (bool_cases (is_same j.progress p))

  pub first_at : (jobs : List (Job A)) (r : ℕ) → first_with p 0 jobs ≡ Some r → (job : Job A) × (slice_get jobs r ≡ Some job) × (job.progress ≡ p)
  first_at jobs r e = let t = first_there 0 jobs r e in let is : r ≡ t.0 = (let q = t.2 in omega arith) in (t.1, ap (slice_get jobs) is ∙ t.3, t.4)

  none_from : (i : ℕ) (jobs : List (Job A)) → first_with p i jobs ≡ None → (r : ℕ) (job : Job A) → slice_get jobs r ≡ Some job → job.progress ≢ p
  none_from i [] e r job at = absurd (cc (at))
  none_from i (j ∷ js) e zero job at = λ is. ⊎_elim
      (λ h. absurd (cc (subst (λ (x : Bool). (if x then Some i else first_with p (i + 1) js) ≡ None) h e)))
      (λ h. absurd (true≢false (sym (is_itself p) ∙ ap (λ (q : Progress). is_same q p) (sym is ∙ ap (λ (k : Job A). k.progress) (sym (same_Some j job at))) ∙ h)))
      (bool_cases (is_same j.progress p))
  none_from i (j ∷ js) e (suc r) job at = ⊎_elim
      (λ h. absurd (cc (subst (λ (x : Bool). (if x then Some i else first_with p (i + 1) js) ≡ None) h e)))
      (λ h. none_from (i + 1) js (subst (λ (x : Bool). (if x then Some i else first_with p (i + 1) js) ≡ None) h e) r job at)
      (bool_cases (is_same j.progress p))

  pub none_at : (jobs : List (Job A)) → first_with p 0 jobs ≡ None → (r : ℕ) (job : Job A) → slice_get jobs r ≡ Some job → job.progress ≢ p
  none_at = none_from 0

module _ {A : Type 0} (b : Behaviour A) (start : Start A) (n : ℕ) (jobs : List (Job A)) (c : AreCollected (JobFits b start) Over n jobs) where
  pub fits_at : (r : ℕ) (job : Job A) → slice_get jobs r ≡ Some job → JobFits b start r job
  fits_at r job at = c.tasks r job (elem_of jobs r job at)

  -- where none is refused and none is at its limit, all have ended
  pub all_ended : first_with Refused 0 jobs ≡ None → first_with AtLimit 0 jobs ≡ None → All HasEnded (stages_of jobs)
  all_ended well going = all_from HasEnded (stages_of jobs) (λ r stage at.
      let j = map_back (λ (k : Job A). k.task.stage) jobs r stage at in
      let is : j.0.progress ≡ Ended = ⊎_elim (λ all. all r j.0 (elem_of jobs r j.0 j.1))
      (λ m. absurd (⊎_elim (none_at AtLimit jobs going m.0 m.1 (of_elem jobs m.0 m.1 m.2)) (none_at Refused jobs well m.0 m.1 (of_elem jobs m.0 m.1 m.2)) m.3)) c.over in
      let stands : TaskStands b start r Ended j.0.task = subst (λ (p : Progress). TaskStands b start r p j.0.task) is (fits_at r j.0 j.1).stands in
      subst HasEnded j.2 stands.1)
