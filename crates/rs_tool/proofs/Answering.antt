-- How a call ends that has written an answer, or made none.
use Rattle.std.proofs.Common.{◌≡◌, ℕ, ◌≤◌, List, length, Option, Some, None, Result, Err, refl, sym, ap, subst, subst₂, ◌∙◌, inl, inr}
use Rattle.std.specs.Prelude.{IfOk, IfSome, OnOk}
use Rattle.std.specs.Io.KnownBytes.{Appends, Keeps, IsAtEnd}
use Rattle.rs_io.specs.Prefix.{AppendsPrefix}
use Rattle.rs_model.specs.declared.limits.TheConstants.{MOST_BYTES}
use Rattle.rs_runs.specs.declared.answers.AnswerWithSession.{AnswerWithSession}
use Rattle.rs_answers.specs.declared.verdicts.Verdict.{Verdict}
use Rattle.rs_answers.specs.declared.verdicts.Verdict.TheVariants as verdict
use Rattle.rs_tool.specs.Calls.{Ends, ForInput, IsStopped, Tells, TellsAll, TellsPart, TellsReadFault, TellsNoMemory}
use Rattle.rs_tool.specs.Data.{CallInput, CallOutput, call_of, input_of, output_of}
use Rattle.rs_tool.specs.Preparing.{AnswersTo, Delivers, DeliversAll, DeliversPart, DeliversNone}
use Rattle.rs_tool.specs.Sessions.{GivesTo}
use Rattle.rs_tool.specs.Statuses.{status_after, status_of}
use Rattle.rs_tool.specs.Tasks.{ReadTheInput}
use Rattle.rs_tool.specs.declared.statuses.Reply.{Reply}
use Rattle.rs_tool.specs.declared.statuses.Status.{Status}
use Rattle.rs_tool.specs.declared.statuses.Status.TheVariants as status
use Rattle.rs_tool.specs.declared.statuses.CallStop.{CallStop}
use Rattle.rs_tool.specs.declared.statuses.CallStop.TheVariants as stop
use Rattle.rs_words.specs.Meaning.{IsMeaning}

-- a fact of the bytes, where they are told
pub where_told : (o : Option (List ℕ)) (P : List ℕ → Type 0) → ((bytes : List ℕ) → P bytes) → IfSome o P
where_told (Some bytes) P h = h bytes
where_told None P h = tt

pub nothing_reads : (words : List (List ℕ)) → IsMeaning words None → ReadTheInput words → ⊥
nothing_reads words none read = none read.0 read.1

pub for_any : (words : List (List ℕ)) (o : Option (List ℕ)) (P : List ℕ → Type 0) → ((bytes : List ℕ) → P bytes) → ForInput words o P
for_any words o P h = record { told = where_told o P h; unread = λ none bytes. h bytes }

pub keeps_same : (o : Option (List ℕ)) → Keeps o o
keeps_same (Some bytes) = refl
keeps_same None = tt

pub no_stop : (v : Verdict) → IsStopped (status_of v) → ⊥
no_stop verdict.Fine (inl e) = cc
no_stop verdict.Fine (inr e) = cc
no_stop verdict.Refused (inl e) = cc
no_stop verdict.Refused (inr e) = cc
no_stop verdict.Usage (inl e) = cc
no_stop verdict.Usage (inr e) = cc
no_stop verdict.Malformed (inl e) = cc
no_stop verdict.Malformed (inr e) = cc
no_stop verdict.Unprojectable (inl e) = cc
no_stop verdict.Unprojectable (inr e) = cc
no_stop verdict.TooLarge (inl e) = cc
no_stop verdict.TooLarge (inr e) = cc
no_stop verdict.Stopped (inl e) = cc
no_stop verdict.Stopped (inr e) = cc
no_stop verdict.Full (inl e) = cc
no_stop verdict.Full (inr e) = cc
no_stop verdict.RoomTooSmall (inl e) = cc
no_stop verdict.RoomTooSmall (inr e) = cc

no_write_fault : (v : Verdict) → status_of v ≡ status.WriteFault → ⊥
no_write_fault verdict.Fine e = cc
no_write_fault verdict.Refused e = cc
no_write_fault verdict.Usage e = cc
no_write_fault verdict.Malformed e = cc
no_write_fault verdict.Unprojectable e = cc
no_write_fault verdict.TooLarge e = cc
no_write_fault verdict.Stopped e = cc
no_write_fault verdict.Full e = cc
no_write_fault verdict.RoomTooSmall e = cc

pub if_told : (left : Option (List ℕ)) (P Q : List ℕ → Type 0) → ((bytes : List ℕ) → P bytes → Q bytes) → IfSome left P → IfSome left Q
if_told (Some bytes) P Q next h = next bytes h
if_told None P Q next h = tt

for_input : (words : List (List ℕ)) (left : Option (List ℕ)) (P Q : List ℕ → Type 0) → ((bytes : List ℕ) → P bytes → Q bytes) → ForInput words left P → ForInput words left Q
for_input words left P Q next h = record { told = if_told left P Q next h.told; unread = λ none bytes. next bytes (h.unread none bytes) }

tells_all : {K : Type 0} (words : List (List ℕ)) (left : Option (List ℕ)) (output : CallOutput K) (a : AnswerWithSession) (s : Status) → s ≡ status_of a.answer.verdict
    → ForInput words left (λ bytes. GivesTo words bytes a)
    → Appends output.written output.later a.answer.text
    → ForInput words left (λ bytes. Tells words bytes output (record { status = s; closed = a.closed }))
tells_all words left output a s is h text = for_input words left _ _ (λ bytes own. TellsAll a.answer own.0 own.1 text is) h

tells_part : {K : Type 0} (words : List (List ℕ)) (left : Option (List ℕ)) (output : CallOutput K) (a : AnswerWithSession) → ForInput words left (λ bytes. GivesTo words bytes a)
    → AppendsPrefix output.written output.later a.answer.text
    → ForInput words left (λ bytes. Tells words bytes output (record { status = status.WriteFault; closed = a.closed }))
tells_part words left output a h text = for_input words left _ _ (λ bytes own. TellsPart a.answer own.0 own.1 text refl) h

at_end : (left later : Option (List ℕ)) (s : Status) → IfSome left (λ bytes. length bytes ≤ MOST_BYTES → IsAtEnd later)
    → IfSome left (λ bytes. length bytes ≤ MOST_BYTES → (IsStopped s → ⊥) → IsAtEnd later)
at_end (Some bytes) later s h = λ short went. h short
at_end None later s h = tt

module _ {S K : Type 0} (words : List (List ℕ)) (input : CallInput S) (output : CallOutput K) where
  -- the answer was written whole
  ends_whole : (a : AnswerWithSession) (s : Status) → s ≡ status_of a.answer.verdict → ForInput words input.left (λ bytes. GivesTo words bytes a) → Appends output.written output.later a.answer.text
      → ((ReadTheInput words → ⊥) → input.behind ≡ input.source)
      → (ReadTheInput words → IfSome input.left (λ bytes. length bytes ≤ MOST_BYTES → IsAtEnd input.later))
      → Ends (call_of words input output) (record { status = s; closed = a.closed })
  ends_whole a s is h text unread end = record {
    answer = tells_all words input.left output a s is h text;
    stopped = λ stop. absurd (no_stop a.answer.verdict (subst IsStopped is stop));
    read_fault = λ e. absurd (no_stop a.answer.verdict (inl (sym is ∙ e)));
    write_fault = λ e. absurd (no_write_fault a.answer.verdict (sym is ∙ e));
    unread = unread;
    end = λ r. at_end input.left input.later s (end r);
  }

  -- a first part of it was written
  ends_early : (a : AnswerWithSession) → ForInput words input.left (λ bytes. GivesTo words bytes a) → AppendsPrefix output.written output.later a.answer.text → output.rose
      → ((ReadTheInput words → ⊥) → input.behind ≡ input.source)
      → (ReadTheInput words → IfSome input.left (λ bytes. length bytes ≤ MOST_BYTES → IsAtEnd input.later))
      → Ends (call_of words input output) (record { status = status.WriteFault; closed = a.closed })
  ends_early a h text rose unread end = record {
    answer = tells_part words input.left output a h text;
    stopped = λ stop. elim stop [ inl e ↦ cc | inr e ↦ cc ];
    read_fault = λ e. cc;
    write_fault = λ e. rose;
    unread = unread;
    end = λ r. at_end input.left input.later status.WriteFault (end r);
  }

  -- nothing was written, since no answer was made
  ends_stopped : (why : CallStop) (s : Status) → s ≡ status_after why → (why ≡ stop.ReadFault → input.rose) → ((ReadTheInput words → ⊥) → input.behind ≡ input.source)
      → output.later ≡ output.written
      → Ends (call_of words input output) (record { status = s; closed = None })
  ends_stopped why s is rose unread kept = record {
    answer = for_any words input.left _ (λ bytes. tells why is);
    stopped = λ _. keeps;
    read_fault = λ e. rose (was_read why (sym is ∙ e));
    write_fault = λ e. absurd (no_write why (sym is ∙ e));
    unread = unread;
    end = λ read. where_told input.left _ (λ bytes short went. absurd (went (is_stopped why is)));
  }
    where
      keeps : Keeps output.written output.later
      keeps = subst (Keeps output.written) (sym kept) (keeps_same output.written)

      tells : {bytes : List ℕ} (w : CallStop) → s ≡ status_after w → Tells words bytes output (record { status = s; closed = None })
      tells stop.ReadFault e = TellsReadFault keeps e refl
      tells stop.NoMemory e = TellsNoMemory keeps e refl

      was_read : (w : CallStop) → status_after w ≡ status.ReadFault → w ≡ stop.ReadFault
      was_read stop.ReadFault e = refl
      was_read stop.NoMemory e = absurd cc

      no_write : (w : CallStop) → status_after w ≡ status.WriteFault → ⊥
      no_write stop.ReadFault e = cc
      no_write stop.NoMemory e = cc

      is_stopped : (w : CallStop) → s ≡ status_after w → IsStopped s
      is_stopped stop.ReadFault e = inl e
      is_stopped stop.NoMemory e = inr e

-- how a call ends that delivers what is given for its words
pub ends_delivered : {S K : Type 0} (words : List (List ℕ)) (input : CallInput S) (output : CallOutput K) (r : Result AnswerWithSession CallStop) (reply : Reply) → AnswersTo words input r
    → Delivers r output reply
    → Ends (call_of words input output) reply
ends_delivered words input output r reply given (DeliversAll a made text is) =
    let answer = subst (λ (x : Result AnswerWithSession CallStop). IfOk x (λ b. ForInput words input.left (λ bytes. GivesTo words bytes b))) made given.answer in
    let end : ReadTheInput words → IfSome input.left (λ bytes. length bytes ≤ MOST_BYTES → IsAtEnd input.later) =
    λ read. subst (λ (x : Result AnswerWithSession CallStop). IfSome input.left (λ bytes. length bytes ≤ MOST_BYTES → OnOk x (IsAtEnd input.later))) made (given.end read) in
    subst (λ (x : Reply). Ends (call_of words input output) x) (sym is) (ends_whole words input output a (status_of a.answer.verdict) refl answer text given.unread end)
ends_delivered words input output r reply given (DeliversPart a made text rose is) =
    let answer = subst (λ (x : Result AnswerWithSession CallStop). IfOk x (λ b. ForInput words input.left (λ bytes. GivesTo words bytes b))) made given.answer in
    let end : ReadTheInput words → IfSome input.left (λ bytes. length bytes ≤ MOST_BYTES → IsAtEnd input.later) =
    λ read. subst (λ (x : Result AnswerWithSession CallStop). IfSome input.left (λ bytes. length bytes ≤ MOST_BYTES → OnOk x (IsAtEnd input.later))) made (given.end read) in
    subst (λ (x : Reply). Ends (call_of words input output) x) (sym is) (ends_early words input output a answer text rose given.unread end)
ends_delivered words input output r reply given (DeliversNone why none kept is) =
    subst (λ (x : Reply). Ends (call_of words input output) x) (sym is)
    (ends_stopped words input output why (status_after why) refl (λ e. given.read_fault (none ∙ ap (λ w. Err w) e)) given.unread kept)

-- a call that made no answer for want of memory says so
pub memory_delivered : {K : Type 0} (r : Result AnswerWithSession CallStop) (output : CallOutput K) (reply : Reply) → r ≡ Err stop.NoMemory → Delivers r output reply → reply.status ≡ status.NoMemory
memory_delivered r output reply e (DeliversAll a made text is) = let no = sym made ∙ e in cc
memory_delivered r output reply e (DeliversPart a made text rose is) = let no = sym made ∙ e in cc
memory_delivered r output reply e (DeliversNone why none kept is) =
    ap (λ (x : Reply). x.status) is ∙ (let same : Err why ≡ Err stop.NoMemory = sym none ∙ e in let one : why ≡ stop.NoMemory = cc in ap status_after one)

-- a call whose source and sink are as they were before ends as one that finds them so
pub ends_unchanged : {S K : Type 0} (left : S → Option (List ℕ)) (faults : S → ℕ) (last : S → Type 0) (written : K → Option (List ℕ)) (refusals : K → ℕ) (full : K → Type 0) (words : List (List ℕ))
    (source mid behind : S) (sink middle later : K) (reply : Reply) → mid ≡ source → middle ≡ sink
    → Ends (call_of words (input_of left faults last mid behind) (output_of written refusals full middle later)) reply
    → Ends (call_of words (input_of left faults last source behind) (output_of written refusals full sink later)) reply
ends_unchanged {S} {K} left faults last written refusals full words source mid behind sink middle later reply same kept h =
    subst₂ (λ (s : S) (k : K). Ends (call_of words (input_of left faults last s behind) (output_of written refusals full k later)) reply) same kept h
