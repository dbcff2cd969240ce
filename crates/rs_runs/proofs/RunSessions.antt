-- The session of a run is the one that is due beside what is told.
use Rattle.std.proofs.Common.{◌≡◌, ℕ, List, length, get_or, slice_get, Option, Some, None, Result, Ok, Err, sym, ap, ◌∙◌, subst, arith}
use Rattle.std.specs.Prelude.{IfOk}
use Rattle.std.proofs.lemmas.Option.{get_or_from_slice_get, slice_get_within}
use Rattle.rs_core.specs.Actors.{Behaviour, Plays}
use Rattle.rs_core.specs.Configurations.{Configuration}
use Rattle.rs_core.specs.Draws.{by_draws}
use Rattle.rs_core.specs.Histories.{History}
use Rattle.rs_core.specs.Runs.{HasActors, IsGiven}
use Rattle.rs_core.specs.declared.runs.Outcome.{Outcome}
use Rattle.rs_core.specs.declared.runs.Outcome.TheVariants as outcome
use Rattle.rs_core.proofs.Ends.{get_there}
use Rattle.rs_exec.specs.Runs.{IsSessionOfRun}
use Rattle.rs_model.specs.Data.{Machine_data, Names_data}
use Rattle.rs_model.specs.declared.memory.NoMemory.{NoMemory}
use Rattle.rs_rings.specs.Closed.{Closed_data}
use Rattle.rs_rings.specs.Views.{history_in}
use Rattle.rs_text.specs.declared.faults.TextKind.{TextKind}
use Rattle.rs_answers.specs.Data.{Answer_data}
use Rattle.rs_answers.specs.RefusalTexts.{fault_answer}
use Rattle.rs_answers.specs.Refusals.{refusal_answer}
use Rattle.rs_runs.specs.RunSessions.{HasCome, IsThereWhere, WasRun, WasRunByDraws}
use Rattle.rs_runs.specs.Runs.{outcome_answer}
use Rattle.rs_runs.specs.declared.answers.AnswerWithSession.{AnswerWithSession}
use Rattle.rs_answers.specs.declared.refusals.Refusal.{Refusal}
use Rattle.rs_answers.specs.declared.verdicts.Verdict.{Verdict}
use Rattle.rs_answers.specs.declared.verdicts.Verdict.TheVariants as verdict
use Rattle.rs_answers.proofs.Refusing.{IsRefusing, fault_refuses, refusal_refuses}

-- ---- a session that was run

module _ {A : Type 0} (machines : List Machine_data) (b : Behaviour A) (actors left : List A) (given : ℕ → A) (limit : ℕ) (closed : Closed_data) (o : Outcome) (is : IsGiven given actors)
    (count : length actors ≡ length machines) (s : IsSessionOfRun machines b actors limit closed o left) where
  -- what each role's actor has become
  after : ℕ → A
  after p = get_or left p (given p)

  after_is : (p : ℕ) (y : A) → slice_get left p ≡ Some y → after p ≡ y
  unfolding after
  after_is p y at = get_or_from_slice_get left p y (given p) at

  have_become : HasActors (length machines) after left
  have_become = record {
    many = s.played.many;
    each = λ p l. let y = get_there left p (let e = s.played.many in omega arith) in y.1 ∙ ap Some (sym (after_is p y.0 y.1));
  }

  -- the session of a run was run by the actors that were given, where what it came to is so
  pub was_run : (comes_to : (ℕ → History) → Configuration → (ℕ → A) → Type 0) → ((become : ℕ → A) → HasActors (length machines) become left → comes_to (history_in closed.last) s.end become)
      → WasRun machines b given limit comes_to closed
  was_run comes_to comes = record {
    same_machines = s.same_machines;
    end = s.end;
    after = after;
    run = record {
      legal = s.legal;
      played = λ p m runs.
          let low = slice_get_within machines p m runs in
          let x = get_there actors p (omega (arith, count)) in
          let y = get_there left p (let e = s.played.many in omega arith) in
          let k = s.played.each p m x.0 y.0 runs x.1 y.1 in (
            k.0,
            subst (λ (z : A). Plays b m z (history_in closed.last p) k.0 (after p)) (sym (is p x.0 x.1))
                (subst (λ (z : A). Plays b m x.0 (history_in closed.last p) k.0 z) (sym (after_is p y.0 y.1)) k.1),
          );
      bounded = s.bounded;
    };
    comes = comes after have_become;
  }

pub was_run_by_draws : (names : Names_data) (ms : List Machine_data) (given : ℕ → ℕ) (limit : ℕ) (actors left : List ℕ) (closed : Closed_data) (o : Outcome) (a : Answer_data) → IsGiven given actors
    → length actors ≡ length ms
    → IsSessionOfRun ms by_draws actors limit closed o left → a ≡ outcome_answer names o → WasRunByDraws names ms given limit a closed
was_run_by_draws names ms given limit actors left closed o a is count s e = was_run ms by_draws actors left given limit closed o is count s _ (λ become has. (o, s.comes_to, e))

-- an outcome is an end or a stop
pub has_come : (names : Names_data) (o : Outcome) (a : Answer_data) → a ≡ outcome_answer names o → HasCome a.verdict
has_come names (outcome.Ended transcripts) a e = subst (λ (z : Answer_data). HasCome z.verdict) (sym e) tt
has_come names (outcome.Stopped role) a e = subst (λ (z : Answer_data). HasCome z.verdict) (sym e) tt

-- ---- answers beside which no session is due

-- an answer that is given alone is the one that was made
pub made_alone : (P : Answer_data → Type 0) (Q : AnswerWithSession → Type 0) (r : Result Answer_data NoMemory) (s : Result AnswerWithSession NoMemory)
    → IfOk s (λ a. (r ≡ Ok a.answer) × (a.closed ≡ None)) → IfOk r P
    → ((a : AnswerWithSession) → P a.answer → a.closed ≡ None → Q a) → IfOk s Q
made_alone P Q r (Ok a) is h next = next a (subst (λ (z : Result Answer_data NoMemory). IfOk z P) is.0 h) is.1
made_alone P Q r (Err e) is h next = tt

-- no session is there where none is due
pub not_there : (due : Type 0) (fact : Closed_data → Type 0) (c : Option Closed_data) → c ≡ None → (due → ⊥) → IsThereWhere due fact c
not_there due fact c none never = subst (IsThereWhere due fact) (sym none) never

-- a session that is there where it was due is there where it is due, if what held of it still holds
pub still_there : (due also : Type 0) (fact other : Closed_data → Type 0) (c : Option Closed_data) → (due → also) → (also → due) → ((closed : Closed_data) → fact closed → other closed)
    → IsThereWhere due fact c → IsThereWhere also other c
still_there due also fact other None there back next h = λ d. h (back d)
still_there due also fact other (Some closed) there back next h = (there h.0, next closed h.1)

abbrev pub IsAlone : Answer_data → Type 0
IsAlone a = HasCome a.verdict → ⊥

pub alone : (a b : Answer_data) → a ≡ b → IsAlone b → IsAlone a
alone a b e h = subst IsAlone (sym e) h

-- a refusal says nothing of a run
refusing_is_alone : (v : Verdict) → IsRefusing v → HasCome v → ⊥
refusing_is_alone verdict.Fine h e = h
refusing_is_alone verdict.Refused h e = e
refusing_is_alone verdict.Usage h e = e
refusing_is_alone verdict.Malformed h e = e
refusing_is_alone verdict.Unprojectable h e = e
refusing_is_alone verdict.TooLarge h e = e
refusing_is_alone verdict.Stopped h e = h
refusing_is_alone verdict.Full h e = e
refusing_is_alone verdict.RoomTooSmall h e = e

pub fault_is_alone : (bytes : List ℕ) (k : TextKind) (at : ℕ) → IsAlone (fault_answer bytes k at)
fault_is_alone bytes k at = refusing_is_alone ((fault_answer bytes k at).verdict) (fault_refuses bytes k at)

pub refusal_is_alone : (names : Names_data) (r : Refusal) → IsAlone (refusal_answer names r)
refusal_is_alone names r = refusing_is_alone ((refusal_answer names r).verdict) (refusal_refuses names r)
