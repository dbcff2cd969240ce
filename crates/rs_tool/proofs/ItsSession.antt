-- A call hands out the session of its task exactly where it is due.
use Rattle.std.proofs.Common.{◌≡◌, inl, inr, ℕ, List, Option, Some, None, sym, ◌∙◌, subst}
use Rattle.std.specs.Prelude.{IfSome}
use Rattle.rs_answers.specs.Data.{Answer_data}
use Rattle.rs_answers.specs.declared.verdicts.Verdict.{Verdict}
use Rattle.rs_rings.specs.Closed.{Closed_data}
use Rattle.rs_words.specs.Meaning.{SpellsTask}
use Rattle.rs_words.specs.declared.tasks.Task.{Task}
use Rattle.rs_words.proofs.Exact.{words_spell_one_task}
use Rattle.rs_tool.specs.Answers.{Answers}
use Rattle.rs_tool.specs.Calls.{Ends, IsStopped, Tells, TellsAll, TellsPart, TellsReadFault, TellsNoMemory}
use Rattle.rs_tool.specs.Data.{Call, CallOutput}
use Rattle.rs_tool.specs.Sessions.{ForNothing, ForTask, HandsOut, HandsOutFor, HasItsSession, WasWritten}
use Rattle.rs_tool.specs.declared.statuses.Reply.{Reply}
use Rattle.rs_tool.specs.declared.statuses.Status.{Status}
use Rattle.rs_tool.specs.declared.statuses.Status.TheVariants as status
use Rattle.rs_tool.proofs.Answering.{if_told, no_stop}
use Rattle.rs_tool.proofs.SomeAnswer.{some_answer}

-- the session that is handed out for the words is that of their task
of_words : (words : List (List ℕ)) (t : Task) (bytes : List ℕ) (a : Answer_data) (c : Option Closed_data) → SpellsTask words t → HandsOutFor words bytes a c → HandsOut t bytes a c
of_words words t bytes a c spells (ForNothing none is) = absurd (none t spells)
of_words words t bytes a c spells (ForTask u s h) = subst (λ (x : Task). HandsOut x bytes a c) (words_spell_one_task words u t s spells) h

-- an answer was written
where_written : (words : List (List ℕ)) (t : Task) (bytes : List ℕ) (a : Answer_data) (s : Status) (c : Option Closed_data) → Answers words bytes a → WasWritten a.verdict s → HandsOut t bytes a c
    → HasItsSession words t bytes (record { status = s; closed = c })
where_written words t bytes a s None h w out = (a, h, λ due. out (due.0, due.1))
where_written words t bytes a s (Some x) h w out = (a, h, ((out.0.0, out.0.1, w), out.1))

-- no answer was written
unwritten : (v : Verdict) (s : Status) → IsStopped s → WasWritten v s → ⊥
unwritten v s stop (inl is) = no_stop v (subst IsStopped is stop)
unwritten v s (inl read) (inr is) = let no : status.ReadFault ≡ status.WriteFault = sym read ∙ is in cc
unwritten v s (inr memory) (inr is) = let no : status.NoMemory ≡ status.WriteFault = sym memory ∙ is in cc

where_stopped : (words : List (List ℕ)) (t : Task) (bytes : List ℕ) (s : Status) (c : Option Closed_data) → IsStopped s → c ≡ None → HasItsSession words t bytes (record { status = s; closed = c })
where_stopped words t bytes s c stop none =
    let a = some_answer words bytes in
    subst (λ (x : Option Closed_data). HasItsSession words t bytes (record { status = s; closed = x })) (sym none) (a.0, a.1, λ due. unwritten a.0.verdict s stop due.2)

told : {K : Type 0} (words : List (List ℕ)) (t : Task) (bytes : List ℕ) (output : CallOutput K) (reply : Reply) → SpellsTask words t → Tells words bytes output reply
    → HasItsSession words t bytes reply
told words t bytes output reply spells (TellsAll a h session text is) = where_written words t bytes a reply.status reply.closed h (inl is) (of_words words t bytes a reply.closed spells session)
told words t bytes output reply spells (TellsPart a h session text is) = where_written words t bytes a reply.status reply.closed h (inr is) (of_words words t bytes a reply.closed spells session)
told words t bytes output reply spells (TellsReadFault keeps is none) = where_stopped words t bytes reply.status reply.closed (inl is) none
told words t bytes output reply spells (TellsNoMemory keeps is none) = where_stopped words t bytes reply.status reply.closed (inr is) none

pub has_its_session : {S K : Type 0} (call : Call S K) (reply : Reply) → Ends call reply → (t : Task) → SpellsTask call.words t
    → IfSome call.input.left (λ bytes. HasItsSession call.words t bytes reply)
has_its_session call reply ends t spells = if_told call.input.left _ _ (λ bytes tells. told call.words t bytes call.output reply spells tells) ends.answer.told
