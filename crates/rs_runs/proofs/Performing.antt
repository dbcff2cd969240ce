-- What was answered is what the demo answers.
use Rattle.std.proofs.Common.{◌≡◌, ℕ, List, [], length, Some, sym, ap, subst, ◌∙◌}
use Rattle.std.proofs.lemmas.Option.{get_or_from_slice_get}
use Rattle.rs_answers.specs.Data.{Answer_data}
use Rattle.rs_runs.specs.Runs.{stopped_answer}
use Rattle.rs_runs.specs.RunSessions.{HasCome}
use Rattle.rs_runs.proofs.RunSessions.{was_run}
use Rattle.rs_core.specs.Plain.{Ending, Ended, Stopped, Stuck, IsPlain}
use Rattle.rs_core.specs.Runs.{IsGiven, EndingShows}
use Rattle.rs_core.specs.declared.runs.Outcome.{Outcome}
use Rattle.rs_core.specs.declared.runs.Outcome.TheVariants as outcome
use Rattle.rs_runs.specs.DemoSessions.{DemoComesTo, WasRunByActors}
use Rattle.rs_exec.specs.Runs.{IsSessionOfRun}
use Rattle.rs_rings.specs.Closed.{Closed_data}
use Rattle.rs_runs.specs.Demos.{TellsDemoEnd, HasEnded, IsStopped, TellsDemoRun, actor_at, demo_outcome_answer}
use Rattle.rs_runs.specs.declared.limits.TheConstants.{DEMO_LIMIT}
use Rattle.rs_demos.specs.Acting.{by_demo}
use Rattle.rs_demos.specs.declared.actors.DemoTalker.{DemoTalker}
use Rattle.rs_demos.specs.declared.actors.DemoTalker.TheVariants as actor
use Rattle.rs_model.specs.Data.{Machine_data, Names_data}
use Rattle.rs_model.specs.declared.demos.Demo.{Demo}

-- the actor of each role is the one that stands in its place
pub given : (actors : List DemoTalker) → IsGiven (actor_at actors) actors
given actors p x e = get_or_from_slice_get actors p x (actor.Sink []) e

-- what a run shows is what is told of its end
shown : (kind : Demo) (names : Names_data) (roles : ℕ) (o : Ending DemoTalker) (x : Outcome) (after : List DemoTalker) (a : Answer_data) → EndingShows roles o x after
    → a ≡ demo_outcome_answer kind names x after → TellsDemoEnd kind names roles a o
shown kind names roles (Ended k) (outcome.Ended transcripts) after a s e = HasEnded k after s.1 e
shown kind names roles (Ended k) (outcome.Stopped role) after a s e = absurd s
shown kind names roles (Stopped p k) (outcome.Ended transcripts) after a s e = absurd s
shown kind names roles (Stopped p k) (outcome.Stopped role) after a s e = IsStopped p k (e ∙ ap (λ (n : ℕ). stopped_answer names (record { 0 = n })) (sym s.0))
shown kind names roles (Stuck k) (outcome.Ended transcripts) after a s e = absurd s
shown kind names roles (Stuck k) (outcome.Stopped role) after a s e = absurd s

pub told : (kind : Demo) (actors : List DemoTalker) (names : Names_data) (ms : List Machine_data) (capacity : ℕ) (x : Outcome) (after : List DemoTalker) (a : Answer_data)
    → (o : Ending DemoTalker) × IsPlain ms by_demo (actor_at actors) DEMO_LIMIT (Some capacity) o × EndingShows (length ms) o x after → a ≡ demo_outcome_answer kind names x after
    → TellsDemoRun kind actors names ms capacity a
told kind actors names ms capacity x after a p e = record { end = p.0; plain = p.1; tells = shown kind names (length ms) p.0 x after a p.2 e }

pub has_come : (kind : Demo) (names : Names_data) (o : Outcome) (left : List DemoTalker) (a : Answer_data) → a ≡ demo_outcome_answer kind names o left → HasCome a.verdict
has_come kind names (outcome.Ended transcripts) left a e = subst (λ (z : Answer_data). HasCome z.verdict) (sym e) tt
has_come kind names (outcome.Stopped role) left a e = subst (λ (z : Answer_data). HasCome z.verdict) (sym e) tt

pub was_run_by_actors : (kind : Demo) (actors : List DemoTalker) (names : Names_data) (ms : List Machine_data) (left : List DemoTalker) (closed : Closed_data) (o : Outcome) (a : Answer_data)
    → length actors ≡ length ms
    → IsSessionOfRun ms by_demo actors DEMO_LIMIT closed o left → a ≡ demo_outcome_answer kind names o left → WasRunByActors kind actors names ms a closed
was_run_by_actors kind actors names ms left closed o a count s e =
    was_run ms by_demo actors left (actor_at actors) DEMO_LIMIT closed o (given actors) count s (DemoComesTo kind names ms a) (λ become has. (o, left, s.comes_to, has, e))
