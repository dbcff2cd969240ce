-- What runs by actors that were made come to.
use Rattle.std.proofs.Common.{◌≡◌, ◌⊎◌, inr, ℕ, List, Result, Ok, Err, Some, length, subst, ◌∙◌}
use Rattle.std.specs.Prelude.{IfErr, IfOk}
use Rattle.rs_core.specs.Actors.{Behaviour}
use Rattle.rs_core.specs.Plain.{Ending, IsPlain}
use Rattle.rs_core.specs.Runs.{EndingShows, FaultTells, IsGiven}
use Rattle.rs_core.specs.declared.runs.RunFault.{RunFault}
use Rattle.rs_core.specs.declared.runs.RunFault.TheVariants as fault
use Rattle.rs_exec.specs.Runs.{IsSessionOfRun}
use Rattle.rs_exec.specs.declared.runs.Ran.{Ran}
use Rattle.rs_model.specs.Data.{Machine_data}
use Rattle.rs_model.specs.declared.graph.Role.{Role}
use Rattle.rs_pool.specs.Pool.{AgreesWithPlain, AreNeverHeldUp}
use Rattle.rs_safety.specs.Accepting.{Accepted_data}
use Rattle.rs_open.specs.Making.{AreMadeBy}
use Rattle.rs_open.specs.Running.{IsRunAlone, IsRunByCrew, IsStuckRun}

module _ {A : Type 0} (b : Behaviour A) (machines : List Machine_data) (Makes : Role → A → Type 0) (actors : List A) (limit capacity : ℕ) (made : AreMadeBy Makes (length machines) actors) where
  pub ran_alone : (r : Result (Ran A) RunFault)
      → IfOk r (λ ran. (given : ℕ → A) → IsGiven given actors
      → (o : Ending A) × IsPlain machines b given limit (Some capacity) o × EndingShows (length machines) o ran.run.outcome ran.run.actors.items)
      → IfOk r (λ ran. IsSessionOfRun machines b actors limit ran.closed ran.run.outcome ran.run.actors.items) → IfOk r (λ ran. ran.closed.capacity ≡ capacity)
      → IfOk r (λ ran. (xs : List A) × AreMadeBy Makes (length machines) xs × IsRunAlone b machines xs limit capacity ran)
  ran_alone (Ok ran) plain session rings = (actors, made, record { plain = plain; session = session; rings = rings })
  ran_alone (Err e) plain session rings = tt

  pub stuck_alone : (r : Result (Ran A) RunFault) → IfErr r (λ e. (given : ℕ → A) → IsGiven given actors → FaultTells machines b given limit capacity e)
      → IfErr r (λ e. (e ≡ fault.NoMemory) ⊎ ((xs : List A) × AreMadeBy Makes (length machines) xs × IsStuckRun b machines xs limit capacity e))
  stuck_alone (Ok ran) full = tt
  stuck_alone (Err e) full = inr (actors, made, full)

  pub ran_by_crew : (ran : Ran A) → ((given : ℕ → A) → IsGiven given actors → AgreesWithPlain machines b given limit ran.run.outcome ran.run.actors.items)
      → IsSessionOfRun machines b actors limit ran.closed ran.run.outcome ran.run.actors.items → ran.closed.capacity ≡ capacity → AreNeverHeldUp machines ran.closed.capacity
      → (xs : List A) × AreMadeBy Makes (length machines) xs × IsRunByCrew b machines xs limit capacity ran
  ran_by_crew ran plain session rings enough =
      (actors, made, record { plain = plain; session = session; rings = rings; enough = subst (AreNeverHeldUp machines) rings enough })

-- the same of the session that is handed in, by what its rings hold
module _ {A : Type 0} (b : Behaviour A) (session accepted : Accepted_data) (Makes : Role → A → Type 0) (actors : List A) (limit messages capacity roles : ℕ) (same : accepted ≡ session)
    (holds : messages ≡ capacity) (many : roles ≡ length session.machines) (made : AreMadeBy Makes roles actors) where
  for_each : AreMadeBy Makes (length session.machines) actors
  for_each = subst (λ (n : ℕ). AreMadeBy Makes n actors) many made

  pub run_told : (r : Result (Ran A) RunFault)
      → IfOk r (λ ran. (given : ℕ → A) → IsGiven given actors
      → (o : Ending A) × IsPlain accepted.machines b given limit (Some messages) o × EndingShows (length accepted.machines) o ran.run.outcome ran.run.actors.items)
      → IfOk r (λ ran. IsSessionOfRun accepted.machines b actors limit ran.closed ran.run.outcome ran.run.actors.items) → IfOk r (λ ran. ran.closed.capacity ≡ messages)
      → IfOk r (λ ran. (xs : List A) × AreMadeBy Makes (length session.machines) xs × IsRunAlone b session.machines xs limit capacity ran)
  run_told r plain closed rings = ran_alone b session.machines Makes actors limit capacity for_each r
      (subst (λ (z : Accepted_data × ℕ). IfOk r (λ ran. (given : ℕ → A) → IsGiven given actors
      → (o : Ending A) × IsPlain z.0.machines b given limit (Some z.1) o × EndingShows (length z.0.machines) o ran.run.outcome ran.run.actors.items)) (λ i. (same i, holds i)) plain)
      (subst (λ (z : Accepted_data). IfOk r (λ ran. IsSessionOfRun z.machines b actors limit ran.closed ran.run.outcome ran.run.actors.items)) same closed)
      (subst (λ (n : ℕ). IfOk r (λ ran. ran.closed.capacity ≡ n)) holds rings)

  pub stuck_told : (r : Result (Ran A) RunFault) → IfErr r (λ e. (given : ℕ → A) → IsGiven given actors → FaultTells accepted.machines b given limit messages e)
      → IfErr r (λ e. (e ≡ fault.NoMemory) ⊎ ((xs : List A) × AreMadeBy Makes (length session.machines) xs × IsStuckRun b session.machines xs limit capacity e))
  stuck_told r full = stuck_alone b session.machines Makes actors limit capacity for_each r
      (subst (λ (z : Accepted_data × ℕ). IfErr r (λ e. (given : ℕ → A) → IsGiven given actors → FaultTells z.0.machines b given limit z.1 e)) (λ i. (same i, holds i)) full)

  pub crew_told : (ran : Ran A) → ((given : ℕ → A) → IsGiven given actors → AgreesWithPlain accepted.machines b given limit ran.run.outcome ran.run.actors.items)
      → IsSessionOfRun accepted.machines b actors limit ran.closed ran.run.outcome ran.run.actors.items → ran.closed.capacity ≡ messages → AreNeverHeldUp accepted.machines ran.closed.capacity
      → (xs : List A) × AreMadeBy Makes (length session.machines) xs × IsRunByCrew b session.machines xs limit capacity ran
  crew_told ran plain closed rings enough = ran_by_crew b session.machines Makes actors limit capacity for_each ran
      (subst (λ (z : Accepted_data). (given : ℕ → A) → IsGiven given actors → AgreesWithPlain z.machines b given limit ran.run.outcome ran.run.actors.items) same plain)
      (subst (λ (z : Accepted_data). IsSessionOfRun z.machines b actors limit ran.closed ran.run.outcome ran.run.actors.items) same closed)
      (rings ∙ holds) (subst (λ (z : Accepted_data). AreNeverHeldUp z.machines ran.closed.capacity) same enough)
