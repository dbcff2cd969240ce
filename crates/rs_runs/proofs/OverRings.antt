-- What a run by workers tells of the plain run over unbounded queues holds of the plain run over rings, where that one always ends.
use Rattle.std.proofs.Common.{ℕ, List, length, Some, None, ap, ◌∙◌}
use Rattle.rs_core.specs.Actors.{Behaviour, ChoosesWell}
use Rattle.rs_core.specs.Choices.{AreWellFormed}
use Rattle.rs_core.specs.Determined.{EndsWith, PlainIs, WasStopped}
use Rattle.rs_core.specs.Histories.{History, transcript_of}
use Rattle.rs_core.specs.Plain.{Moment, Ending, Ended, Stopped, Stuck, IsPlain}
use Rattle.rs_core.specs.Runs.{EndingShows}
use Rattle.rs_core.specs.Safety.{IsSafe}
use Rattle.rs_core.specs.declared.runs.Outcome.{Outcome}
use Rattle.rs_core.specs.declared.runs.Outcome.TheVariants as outcome
use Rattle.rs_core.specs.declared.transcripts.Entry.{Entry}
use Rattle.rs_core.proofs.Determined.{determined_capacity}
use Rattle.rs_core.proofs.Ends.{comes_to_an_end}
use Rattle.rs_model.specs.Data.{Machine_data}
use Rattle.rs_pool.specs.Pool.{AgreesWithPlain}

module _ {A : Type 0} (b : Behaviour A) (ms : List Machine_data) (given : ℕ → A) (limit : ℕ) where
  -- what is shown of an end is shown of each with the same histories and actors
  shown_too : (k : Moment A) (transcripts : List (List Entry)) (left : List A) (e : Ending A) → EndsWith ms k.history k.actor e → EndingShows (length ms) e (outcome.Ended transcripts) left
      → EndingShows (length ms) (Ended k) (outcome.Ended transcripts) left
  shown_too k transcripts left (Ended m) same s = (
    record { many = s.0.many; each = λ p l. s.0.each p l ∙ ap (λ (h : History). Some (transcript_of h)) (same p l).0 },
    record { many = s.1.many; each = λ p l. s.1.each p l ∙ ap (λ (x : A). Some x) (same p l).1 },
  )
  shown_too k transcripts left (Stopped p m) same s = absurd same
  shown_too k transcripts left (Stuck m) same s = absurd same

  -- what has ended wasn't stopped
  not_both : (k : Moment A) (e : Ending A) → EndsWith ms k.history k.actor e → WasStopped e → ⊥
  not_both k (Ended m) same stopped = stopped
  not_both k (Stopped p m) same stopped = same
  not_both k (Stuck m) same stopped = same

  pub shown_of : (k : Moment A) (x : Outcome) (left : List A) → PlainIs ms b given limit None (EndsWith ms k.history k.actor) → AgreesWithPlain ms b given limit x left
      → EndingShows (length ms) (Ended k) x left
  shown_of k (outcome.Ended transcripts) left is agrees = shown_too k transcripts left is.some.0 (is.each is.some.0 is.some.1) (agrees.each is.some.0 is.some.1)
  shown_of k (outcome.Stopped role) left is agrees = absurd (not_both k is.some.0 (is.each is.some.0 is.some.1) (agrees.0.each is.some.0 is.some.1))

  -- no run over rings of this capacity is stuck, and none is stopped
  abbrev pub AlwaysEnds : ℕ → Type 0
  AlwaysEnds capacity = ((k : Moment A) → IsPlain ms b given limit (Some capacity) (Stuck k) → ⊥) × ((role : ℕ) (k : Moment A) → IsPlain ms b given limit (Some capacity) (Stopped role k) → ⊥)

  shown_at : ChoosesWell b → IsSafe ms → AreWellFormed ms → (capacity : ℕ) (x : Outcome) (left : List A) → AlwaysEnds capacity → AgreesWithPlain ms b given limit x left
      → (o : Ending A) → IsPlain ms b given limit (Some capacity) o → EndingShows (length ms) o x left
  shown_at well safe wf capacity x left ends agrees (Ended k) plain = shown_of k x left (determined_capacity b well ms given limit (Some capacity) k safe wf plain) agrees
  shown_at well safe wf capacity x left ends agrees (Stopped p k) plain = absurd (ends.1 p k plain)
  shown_at well safe wf capacity x left ends agrees (Stuck k) plain = absurd (ends.0 k plain)

  pub over_rings : ChoosesWell b → IsSafe ms → AreWellFormed ms → (capacity : ℕ) (x : Outcome) (left : List A) → AlwaysEnds capacity → AgreesWithPlain ms b given limit x left
      → (o : Ending A) × IsPlain ms b given limit (Some capacity) o × EndingShows (length ms) o x left
  over_rings well safe wf capacity x left ends agrees =
      let o = comes_to_an_end b ms given limit (Some capacity) record { safe = safe; wf = wf; well = well } in
      (o.0, o.1, shown_at well safe wf capacity x left ends agrees o.0 o.1)
