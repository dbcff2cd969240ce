-- What is printed of a run with random choices.
use Rattle.std.proofs.Common.{◌≡◌, ℕ, List, length, refl, sym}
use Rattle.rs_runs.proofs.Outcomes.{tells_run}
use Rattle.rs_answers.specs.Data.{Answer_data}
use Rattle.rs_runs.specs.Runs.{TellsRun, actor_of, outcome_answer}
use Rattle.rs_core.specs.Draws.{by_draws}
use Rattle.rs_exec.specs.declared.runs.Ran.{Ran}
use Rattle.rs_model.specs.Data.{Machine_data, Names_data}
use Rattle.rs_model.specs.declared.graph.Role.{Role}
use Rattle.rs_open.specs.Making.{AreMadeBy}
use Rattle.rs_open.specs.Running.{IsRunAlone}

pub told_as : (names : Names_data) (machines : List Machine_data) (seed limit capacity : ℕ) (Makes : Role → ℕ → Type 0) (actors : List ℕ) (ran : Ran ℕ) (text : List ℕ)
    → ((role : Role) (x : ℕ) → Makes role x → x ≡ actor_of seed role.0) → AreMadeBy Makes (length machines) actors → IsRunAlone by_draws machines actors limit capacity ran
    → text ≡ (outcome_answer names ran.run.outcome).text
    → (answer : Answer_data) × (text ≡ answer.text) × TellsRun names machines (actor_of seed) limit capacity answer
told_as names machines seed limit capacity Makes actors ran text draws made run told = (
  outcome_answer names ran.run.outcome,
  told,
  tells_run names machines (actor_of seed) limit capacity ran.run.outcome ran.run.actors.items (outcome_answer names ran.run.outcome)
      (run.plain (actor_of seed) (λ p x here. sym (draws (record { 0 = p }) x (made.each (record { 0 = p }) x here)))) refl,
)
