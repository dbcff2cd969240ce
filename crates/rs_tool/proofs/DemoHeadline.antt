-- The session of a demo that was carried out is safe, and its run is never full.
use Rattle.std.proofs.Common.{◌≡◌, ℕ, List, Option, sym, subst, ◌∙◌}
use Rattle.std.specs.Prelude.{IfSome}
use Rattle.rs_answers.specs.Data.{Answer_data}
use Rattle.rs_answers.specs.Refusals.{refusal_answer}
use Rattle.rs_runs.specs.Demos.{AnswersDemo, HasBadNumbers, IsDocument, IsRefused, IsAccepted, IsTooSmall, IsRun, TellsDemoEnd, HasEnded, IsStopped}
use Rattle.rs_core.specs.Plain.{Ending}
use Rattle.rs_demos.specs.declared.actors.DemoTalker.{DemoTalker}
use Rattle.rs_model.specs.Data.{Names_data}
use Rattle.rs_model.specs.declared.demos.Demo.{Demo}
use Rattle.rs_tool.specs.Answers.{AnswersData, DataIsTooLong, DataIsShort}
use Rattle.rs_tool.specs.Calls.{Ends, Tells, TellsAll, TellsPart, TellsReadFault, TellsNoMemory}
use Rattle.rs_tool.specs.Data.{Call, CallOutput}
use Rattle.rs_tool.specs.DemoHeadline.{HasSafeDemo}
use Rattle.rs_tool.specs.RunHeadline.{IsOfRun}
use Rattle.rs_tool.specs.Statuses.{status_of}
use Rattle.rs_tool.specs.Tasks.{SpellsDemo}
use Rattle.rs_tool.specs.declared.statuses.Reply.{Reply}
use Rattle.rs_tool.specs.declared.statuses.Status.TheVariants as status
use Rattle.rs_model.specs.declared.limits.TheConstants.{DEFAULT_BOUND}
use Rattle.rs_words.specs.declared.tasks.Task.TheVariants as task
use Rattle.rs_tool.proofs.Answering.{if_told}
use Rattle.rs_tool.proofs.Headline.{derived_is_safe, no_run, refusal_is_no_run, task_is_answered, told_is_run}

demo_is_safe : (kind : Demo) (ring : Option ℕ) (bytes : List ℕ) (a : Answer_data) → AnswersDemo kind ring bytes a → IsOfRun (status_of a.verdict) → HasSafeDemo kind bytes
demo_is_safe kind ring bytes a (HasBadNumbers n x) run = absurd (no_run a _ x (λ e. e) run)
demo_is_safe kind ring bytes a (IsDocument actors text d o h (IsRefused r k x)) run = absurd (no_run a _ x (refusal_is_no_run d.names r) run)
demo_is_safe kind ring bytes a (IsDocument actors text d o h (IsAccepted ps ms ds k f p)) run = record {
  actors = actors;
  text = text;
  opens = o;
  safe = derived_is_safe DEFAULT_BOUND text d ps ms ds h k f;
}

data_is_safe : (kind : Demo) (ring : Option ℕ) (bytes : List ℕ) (a : Answer_data) → AnswersData kind ring bytes a → IsOfRun (status_of a.verdict) → HasSafeDemo kind bytes
data_is_safe kind ring bytes a (DataIsTooLong l x) run = absurd (no_run a _ x (λ e. e) run)
data_is_safe kind ring bytes a (DataIsShort s h) run = demo_is_safe kind ring bytes a h run

demos_are_safe : {K : Type 0} (words : List (List ℕ)) (bytes : List ℕ) (output : CallOutput K) (reply : Reply) (kind : Demo) (ring : Option ℕ) → SpellsDemo words kind ring
    → Tells words bytes output reply → IsOfRun reply.status → HasSafeDemo kind bytes
demos_are_safe words bytes output reply kind ring spells told run =
    let is = told_is_run words (task.OnData (record { kind = kind; ring = ring; workers = spells.0 })) bytes output reply spells.1 told run in
    data_is_safe kind ring bytes is.0 is.1 is.2

-- ---- no demo is full

-- an answer that doesn't say that a queue is full
abbrev IsNotFull : Answer_data → Type 0
IsNotFull a = status_of a.verdict ≡ status.Full → ⊥

not_full : (a b : Answer_data) → a ≡ b → IsNotFull b → IsNotFull a
not_full a b e h = subst IsNotFull (sym e) h

no_run_is_not_full : (a : Answer_data) → (IsOfRun (status_of a.verdict) → ⊥) → IsNotFull a
no_run_is_not_full a h full = h (subst IsOfRun (sym full) tt)

end_is_not_full : (kind : Demo) (names : Names_data) (roles : ℕ) (a : Answer_data) (o : Ending DemoTalker) → TellsDemoEnd kind names roles a o → IsNotFull a
end_is_not_full kind names roles a o (HasEnded k xs h x) = not_full a _ x (λ full. cc)
end_is_not_full kind names roles a o (IsStopped p k x) = not_full a _ x (λ full. cc)

demo_is_not_full : (kind : Demo) (ring : Option ℕ) (bytes : List ℕ) (a : Answer_data) → AnswersDemo kind ring bytes a → IsNotFull a
demo_is_not_full kind ring bytes a (HasBadNumbers n x) = not_full a _ x (λ full. cc)
demo_is_not_full kind ring bytes a (IsDocument actors text d o h (IsRefused r k x)) = not_full a _ x (no_run_is_not_full (refusal_answer d.names r) (refusal_is_no_run d.names r))
demo_is_not_full kind ring bytes a (IsDocument actors text d o h (IsAccepted ps ms ds k f (IsTooSmall l x))) = not_full a _ x (λ full. cc)
demo_is_not_full kind ring bytes a (IsDocument actors text d o h (IsAccepted ps ms ds k f (IsRun l run))) = end_is_not_full kind d.names _ a run.end run.tells

data_is_not_full : (kind : Demo) (ring : Option ℕ) (bytes : List ℕ) (a : Answer_data) → AnswersData kind ring bytes a → IsNotFull a
data_is_not_full kind ring bytes a (DataIsTooLong l x) = not_full a _ x (λ full. cc)
data_is_not_full kind ring bytes a (DataIsShort s h) = demo_is_not_full kind ring bytes a h

told_is_not_full : {K : Type 0} (words : List (List ℕ)) (kind : Demo) (ring : Option ℕ) (bytes : List ℕ) (output : CallOutput K) (reply : Reply) → SpellsDemo words kind ring
    → Tells words bytes output reply → reply.status ≡ status.Full → ⊥
told_is_not_full words kind ring bytes output reply spells (TellsAll a h session text is) full =
    data_is_not_full kind ring bytes a (task_is_answered words (task.OnData (record { kind = kind; ring = ring; workers = spells.0 })) bytes a spells.1 h) (sym is ∙ full)
told_is_not_full words kind ring bytes output reply spells (TellsPart a h session text is) full = let no = sym is ∙ full in cc
told_is_not_full words kind ring bytes output reply spells (TellsReadFault keeps is none) full = let no = sym is ∙ full in cc
told_is_not_full words kind ring bytes output reply spells (TellsNoMemory keeps is none) full = let no = sym is ∙ full in cc

pub demos_are_safe_and_never_full : {S K : Type 0} (call : Call S K) (reply : Reply) → Ends call reply → (kind : Demo) (ring : Option ℕ) → SpellsDemo call.words kind ring
    → IfSome call.input.left (λ bytes. (IsOfRun reply.status → HasSafeDemo kind bytes) × (reply.status ≡ status.Full → ⊥))
demos_are_safe_and_never_full call reply ends kind ring spells = if_told call.input.left _ _ (λ bytes told. (
  demos_are_safe call.words bytes call.output reply kind ring spells told,
  told_is_not_full call.words kind ring bytes call.output reply spells told,
)) ends.answer.told
