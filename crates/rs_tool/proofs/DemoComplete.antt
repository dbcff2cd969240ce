-- A demo that can be performed is performed.
use Rattle.std.proofs.Common.{◌≡◌, ℕ, ◌≤◌, List, length, Option, Some, sym, subst, arith}
use Rattle.rs_answers.specs.Data.{Answer_data}
use Rattle.rs_runs.specs.Runs.{capacity_of}
use Rattle.rs_answers.specs.Sessions.{HasMachines}
use Rattle.rs_answers.proofs.OneReason.{not_refused, one_session_derived}
use Rattle.rs_core.specs.Plain.{Ending, IsPlain}
use Rattle.rs_runs.specs.Demos.{AnswersDemo, HasBadNumbers, IsDocument, AnswersOwn, IsRefused, IsAccepted, IsTooSmall, IsRun, TellsDemoEnd, HasEnded, IsStopped, Opens, actor_at}
use Rattle.rs_runs.specs.declared.limits.TheConstants.{DEMO_LIMIT}
use Rattle.rs_runs.proofs.OneDemo.{one_opening}
use Rattle.rs_runs.proofs.Stopping.{never_stopped}
use Rattle.rs_demos.specs.Acting.{by_demo}
use Rattle.rs_demos.specs.declared.actors.DemoTalker.{DemoTalker}
use Rattle.rs_demos.proofs.Deciding.{not_both_shown}
use Rattle.rs_derive.specs.Data.{Derivation_data}
use Rattle.rs_documents.specs.Data.{Document_data}
use Rattle.rs_documents.specs.Documents.{SpellsDocument}
use Rattle.rs_documents.proofs.OneDocument.{one_document}
use Rattle.rs_model.specs.Data.{Machine_data}
use Rattle.rs_model.specs.declared.limits.TheConstants.{MOST_BYTES}
use Rattle.rs_model.specs.declared.demos.Demo.{Demo}
use Rattle.rs_project.specs.Data.{Projection_data}
use Rattle.rs_safety.specs.Room.{room_of}
use Rattle.rs_tool.specs.Answers.{AnswersData, DataIsTooLong, DataIsShort}
use Rattle.rs_tool.specs.Calls.{Ends, Tells, TellsAll, TellsPart, TellsReadFault, TellsNoMemory}
use Rattle.rs_tool.specs.Data.{Call, CallOutput}
use Rattle.rs_tool.specs.DemoCompleteness.{CanBePerformed, IsCompleteDemo, IsPerformed}
use Rattle.rs_tool.specs.Statuses.{status_of}
use Rattle.rs_tool.specs.Tasks.{SpellsDemo}
use Rattle.rs_tool.specs.declared.statuses.Reply.{Reply}
use Rattle.rs_tool.specs.declared.statuses.Status.TheVariants as status
use Rattle.rs_model.specs.declared.limits.TheConstants.{DEFAULT_BOUND}
use Rattle.rs_words.specs.declared.tasks.Task.TheVariants as task
use Rattle.rs_tool.proofs.Answering.{if_told}
use Rattle.rs_tool.proofs.Complete.{derived, has_machines}
use Rattle.rs_tool.proofs.Headline.{task_is_answered}

abbrev WasPerformed : Answer_data → Type 0
WasPerformed a = IsPerformed (status_of a.verdict)

was_performed : (a b : Answer_data) → a ≡ b → WasPerformed b → WasPerformed a
was_performed a b e h = subst WasPerformed (sym e) h

end_is_performed : (kind : Demo) (bytes : List ℕ) (actors : List DemoTalker) (text : List ℕ) (d : Document_data) (ps : List Projection_data) (ms : List Machine_data) (capacity : ℕ) (a : Answer_data)
    (o : Ending DemoTalker) → length bytes ≤ MOST_BYTES
    → Opens kind bytes actors text → SpellsDocument text d → HasMachines d ps ms → IsPlain ms by_demo (actor_at actors) DEMO_LIMIT (Some capacity) o → TellsDemoEnd kind d.names (length ms) a o
    → WasPerformed a
end_is_performed kind bytes actors text d ps ms capacity a o short opens spells h plain (HasEnded k xs has x) = was_performed a _ x tt
end_is_performed kind bytes actors text d ps ms capacity a o short opens spells h plain (IsStopped p k x) =
    absurd (never_stopped kind bytes actors text d ps ms (Some capacity) p k short opens spells h plain)

-- what is answered to the document of a demo that can be performed
own_is_performed : (kind : Demo) (ring : Option ℕ) (bytes : List ℕ) (c : CanBePerformed kind ring bytes) (actors : List DemoTalker) (text : List ℕ) (d : Document_data) (a : Answer_data)
    → Opens kind bytes actors text → SpellsDocument text d → d ≡ c.session.document → AnswersOwn kind ring actors d a → WasPerformed a
own_is_performed kind ring bytes c actors text d a opens spells is (IsRefused r h x) =
    let f = derived DEFAULT_BOUND c.text c.session in
    absurd (not_refused DEFAULT_BOUND c.session.document c.session.projections _ f.0 r (has_machines DEFAULT_BOUND c.text c.session) f.1 (rw is at h))
own_is_performed kind ring bytes c actors text d a opens spells is (IsAccepted ps ms ds h found (IsRun l run)) =
    end_is_performed kind bytes actors text d ps ms _ a run.end c.short opens spells h run.plain run.tells
own_is_performed kind ring bytes c actors text d a opens spells is (IsAccepted ps ms ds h found (IsTooSmall l x)) =
    let f = derived DEFAULT_BOUND c.text c.session in
    let P : Document_data → Type 0 = λ z. HasMachines z ps ms in
    let same : f.0 ≡ ds = one_session_derived DEFAULT_BOUND c.session.document c.session.projections ps _ ms f.0 ds (has_machines DEFAULT_BOUND c.text c.session) (subst P is h) f.1 found in
    let enough : room_of ds ≤ capacity_of ring (room_of ds) = subst (λ (z : List Derivation_data). room_of z ≤ capacity_of ring (room_of z)) same (c.enough f.0 f.1) in
    absurd (omega (arith, l, enough))

demo_is_performed : (kind : Demo) (ring : Option ℕ) (bytes : List ℕ) (a : Answer_data) → CanBePerformed kind ring bytes → AnswersDemo kind ring bytes a → WasPerformed a
demo_is_performed kind ring bytes a c (HasBadNumbers n x) = absurd (not_both_shown kind bytes c.actors c.opens.starts n)
demo_is_performed kind ring bytes a c (IsDocument actors text d o h own) =
    let s = one_opening kind bytes actors c.actors text c.text o c.opens in
    let P : List ℕ → Type 0 = λ z. SpellsDocument z d in
    own_is_performed kind ring bytes c actors text d a o h (one_document c.text d c.session.document (subst P s.texts h) c.session.spells) own

data_is_performed : (kind : Demo) (ring : Option ℕ) (bytes : List ℕ) (a : Answer_data) → CanBePerformed kind ring bytes → AnswersData kind ring bytes a → WasPerformed a
data_is_performed kind ring bytes a c (DataIsTooLong l x) = let short = c.short in absurd (omega (arith, l, short))
data_is_performed kind ring bytes a c (DataIsShort s h) = demo_is_performed kind ring bytes a c h

told_is_performed : {K : Type 0} (words : List (List ℕ)) (kind : Demo) (ring : Option ℕ) (bytes : List ℕ) (output : CallOutput K) (reply : Reply) → CanBePerformed kind ring bytes
    → SpellsDemo words kind ring → Tells words bytes output reply
    → (reply.status ≡ status.ReadFault → ⊥) → (reply.status ≡ status.WriteFault → ⊥) → IsPerformed reply.status
told_is_performed words kind ring bytes output reply c spells (TellsAll a h session text is) no_read no_write =
    subst IsPerformed (sym is) (data_is_performed kind ring bytes a c (task_is_answered words (task.OnData (record { kind = kind; ring = ring; workers = spells.0 })) bytes a spells.1 h))
told_is_performed words kind ring bytes output reply c spells (TellsPart a h session text is) no_read no_write = absurd (no_write is)
told_is_performed words kind ring bytes output reply c spells (TellsReadFault keeps is none) no_read no_write = absurd (no_read is)
told_is_performed words kind ring bytes output reply c spells (TellsNoMemory keeps is none) no_read no_write = subst IsPerformed (sym is) tt

pub complete_demo : {S K : Type 0} (call : Call S K) (reply : Reply) → Ends call reply → IsCompleteDemo call reply.status
complete_demo call reply ends = λ kind ring spells. if_told call.input.left _ _ (λ bytes tells c no_read no_write.
    told_is_performed call.words kind ring bytes call.output reply c spells tells (λ is. no_read (ends.read_fault is)) (λ is. no_write (ends.write_fault is))) ends.answer.told
