-- What is made ready for a task, and what comes of it, is what is due.
use Rattle.std.proofs.Common.{◌≡◌, ℕ, ◌≤◌, ◌<◌, ◌⊎◌, List, length, ◌++◌, false, Option, Some, None, Result, Ok, Err, sym, ap, subst, ◌∙◌, inl, inr}
use Rattle.std.specs.Prelude.{IfOk, IfSome, OnOk, codes}
use Rattle.std.specs.Io.KnownBytes.{IsAtEnd}
use Rattle.std.proofs.lemmas.Result.{IfOk-weaker}
use Rattle.rs_answers.specs.Data.{Answer_data}
use Rattle.rs_runs.specs.Ready.{ComesOf, IsReadyFor, Warrants}
use Rattle.rs_answers.specs.RefusalTexts.{too_large, usage}
use Rattle.rs_runs.specs.RunSessions.{GivesRun, HasCome}
use Rattle.rs_runs.specs.DemoSessions.{GivesDemo}
use Rattle.rs_runs.specs.declared.answers.AnswerWithSession.{AnswerWithSession}
use Rattle.rs_runs.specs.declared.ready.Prepared.{Prepared}
use Rattle.rs_runs.specs.declared.ready.Prepared.TheVariants.{Answered}
use Rattle.rs_answers.specs.declared.verdicts.Verdict.{Verdict}
use Rattle.rs_runs.proofs.Leading.{HoldsAlone, made_leads}
use Rattle.rs_runs.proofs.RunSessions.{IsAlone, alone, fault_is_alone, not_there, still_there}
use Rattle.rs_documents.specs.Data.{Document_data}
use Rattle.rs_documents.specs.Documents.{FirstFault, SpellsDocument}
use Rattle.rs_model.specs.declared.limits.TheConstants.{DEFAULT_BOUND, MOST_BYTES}
use Rattle.rs_model.specs.declared.memory.NoMemory.{NoMemory}
use Rattle.rs_model.specs.declared.runs.RunOptions.{RunOptions}
use Rattle.rs_model.specs.declared.runs.Workers.{Workers}
use Rattle.rs_model.specs.declared.runs.Workers.TheVariants.{One, Several}
use Rattle.rs_tool.specs.Pipelines.{pipeline_of, pipeline_summary, pipeline_text}
use Rattle.rs_text.specs.declared.faults.TextFault.{TextFault}
use Rattle.rs_text.specs.declared.faults.TextKind.{TextKind}
use Rattle.rs_text.specs.declared.faults.TextKind.TheVariants as kind
use Rattle.rs_tool.specs.Answers.{AnswersDocument, AnswersPipeline, AnswersText, CarriesOut, DataIsShort, DataIsTooLong, IsDocument, IsFaulty, IsTooLong, SpellsNothing, fault_answer_of}
use Rattle.rs_tool.specs.Calls.{ForInput}
use Rattle.rs_tool.specs.Data.{CallInput}
use Rattle.rs_tool.specs.Preparing.{AnswersTo, Prepares}
use Rattle.rs_tool.specs.Sessions.{ForNothing, ForTask, Gives, GivesTo, RunsASession}
use Rattle.rs_tool.specs.Tasks.{AskForWorkers, ReadsTheInput}
use Rattle.rs_tool.specs.declared.statuses.CallStop.{CallStop}
use Rattle.rs_tool.specs.declared.statuses.CallStop.TheVariants as stop
use Rattle.rs_tool.proofs.Answering.{for_any, nothing_reads, where_told}
use Rattle.rs_tool.proofs.Headline.{fault_verdict}
use Rattle.rs_words.proofs.Exact.{words_spell_one_task}
use Rattle.rs_words.specs.Meaning.{IsMeaning, SpellsTask}
use Rattle.rs_words.specs.Tasks.{workers_of}
use Rattle.rs_words.specs.declared.tasks.DemoTask.{DemoTask}
use Rattle.rs_words.specs.declared.tasks.DocumentTask.{DocumentTask}
use Rattle.rs_words.specs.declared.tasks.DocumentTask.TheVariants as on_document
use Rattle.rs_words.specs.declared.tasks.Task.{Task}
use Rattle.rs_words.specs.declared.tasks.Task.TheVariants as task

-- ---- on a document

-- the first fault of a text, or that memory was refused
pub of_fault : (t : DocumentTask) (bytes : List ℕ) (f : TextFault) (r : Result Answer_data NoMemory) → length bytes ≤ MOST_BYTES → (f.kind ≡ kind.NoMemory) ⊎ FirstFault bytes f.kind f.at
    → IfOk r (λ m. m ≡ fault_answer_of t bytes f.kind f.at)
    → OnOk r (f.kind ≡ kind.NoMemory → ⊥) → IfOk r (AnswersText t bytes)
of_fault t bytes f (Err e) short why is never = tt
of_fault t bytes f (Ok m) short (inl memory) is never = absurd (never memory)
of_fault t bytes f (Ok m) short (inr h) is never = IsFaulty short f.kind f.at h is

pub both_ok : {A E : Type 0} (r : Result A E) (P Q R : A → Type 0) → ((a : A) → P a → Q a → R a) → IfOk r P → IfOk r Q → IfOk r R
both_ok (Ok a) P Q R next p q = next a p q
both_ok (Err e) P Q R next p q = tt

-- an answer beside which no session is due is given alone
pub gives_alone : (t : Task) (bytes : List ℕ) (a : Answer_data) → ((answer : Answer_data) → answer ≡ a → Gives t bytes (record { answer = answer; closed = None })) → HoldsAlone (Gives t bytes) a
gives_alone t bytes a h given same none =
    subst (λ z. Gives t bytes (record { answer = given.answer; closed = z })) (sym none) (h given.answer same)

-- the answer to a fault says nothing of a run
task_fault_is_alone : (t : DocumentTask) (bytes : List ℕ) (k : TextKind) (at : ℕ) → IsAlone (fault_answer_of t bytes k at)
task_fault_is_alone t bytes k at run = fault_is_alone bytes k at (subst HasCome (fault_verdict t bytes k at) run)

-- a text is at fault
pub fault_alone : (t : DocumentTask) (bytes : List ℕ) (f : TextFault) (a : Answer_data) → AnswersText t bytes a × (a ≡ fault_answer_of t bytes f.kind f.at) → HoldsAlone (Gives (task.OnDocument t) bytes) a
fault_alone t bytes f a h given same none = (
  subst (AnswersText t bytes) (sym same) h.0,
  not_there _ _ given.closed none (λ due. alone given.answer _ (same ∙ h.1) (task_fault_is_alone t bytes f.kind f.at) due.1),
)

-- it spells a document, and nothing is run
pub document_alone : (t : DocumentTask) (bytes : List ℕ) (d : Document_data) (a : Answer_data) → length bytes ≤ MOST_BYTES → SpellsDocument bytes d → (RunsASession (task.OnDocument t) → ⊥)
    → AnswersDocument t bytes d a
    → HoldsAlone (Gives (task.OnDocument t) bytes) a
document_alone t bytes d a short doc never h given same none =
    (IsDocument short d doc (subst (AnswersDocument t bytes d) (sym same) h), not_there _ _ given.closed none (λ due. never due.0))

-- what was answered to a document, and is given alone, leads to what is due
pub document_leads : (t u : DocumentTask) (bytes : List ℕ) (d : Document_data) (r : Result Answer_data NoMemory) (s : Result Prepared NoMemory) → t ≡ u → length bytes ≤ MOST_BYTES
    → SpellsDocument bytes d
    → (RunsASession (task.OnDocument u) → ⊥) → IfOk s (λ p. (a : Answer_data) × (r ≡ Ok a) × (p ≡ Answered a)) → IfOk r (AnswersDocument u bytes d)
    → IfOk s (λ p. Warrants (workers_of (task.OnDocument t)) p (Gives (task.OnDocument t) bytes))
document_leads t u bytes d r s e short doc never made h =
    subst (λ (x : DocumentTask). IfOk s (λ p. Warrants (workers_of (task.OnDocument x)) p (Gives (task.OnDocument x) bytes))) (sym e)
    (made_leads (workers_of (task.OnDocument u)) (AnswersDocument u bytes d) (Gives (task.OnDocument u) bytes) r s made h (λ a k. document_alone u bytes d a short doc never k))

-- a session that is run on a document leads to what is due
pub run_gives : (options : RunOptions) (workers : Workers) (bytes : List ℕ) (d : Document_data) (g : AnswerWithSession) → length bytes ≤ MOST_BYTES → SpellsDocument bytes d
    → GivesRun workers options d g
    → Gives (task.OnDocument (on_document.Run options workers)) bytes g
run_gives options workers bytes d g short doc h =
    (IsDocument short d doc h.0, still_there _ _ _ _ g.closed (λ come. (tt, come)) (λ due. due.1) (λ closed was. (d, doc, was)) h.1)

-- ---- on data, and on a number

demo_gives : (t : DemoTask) (bytes : List ℕ) (g : AnswerWithSession) → length bytes ≤ MOST_BYTES → GivesDemo t.kind t.ring bytes g → Gives (task.OnData t) bytes g
demo_gives t bytes g short h = (DataIsShort short h.0, still_there _ _ _ _ g.closed (λ come. (tt, come)) (λ due. due.1) (λ closed was. was) h.1)

-- what is made ready for a demo leads to what is due, by the workers that it asks for
pub demo_leads : (t : DemoTask) (bytes : List ℕ) (r : Result Prepared NoMemory) → length bytes ≤ MOST_BYTES → IfOk r (λ p. Warrants One p (GivesDemo t.kind t.ring bytes))
    → IfOk r (λ p. (crew : ℕ) → Warrants (Several crew) p (GivesDemo t.kind t.ring bytes))
    → IfOk r (λ p. Warrants (workers_of (task.OnData t)) p (Gives (task.OnData t) bytes))
demo_leads t bytes r short alone crew = IfOk-weaker r _ _ (λ p l. record { ready = l.ready; given = λ g comes. demo_gives t bytes g short (l.given g comes) }) (by t.workers)
  where
    by : (workers : Workers) → IfOk r (λ p. Warrants workers p (GivesDemo t.kind t.ring bytes))
    by One = alone
    by (Several n) = IfOk-weaker r _ _ (λ p l. l n) crew

pub pipeline_alone : (number : ℕ) (a : Answer_data) → AnswersPipeline number a → HoldsAlone (λ g. (bytes : List ℕ) → Gives (task.Gen number) bytes g) a
pipeline_alone number a h given same none bytes = (subst (AnswersPipeline number) (sym same) h, not_there _ _ given.closed none (λ due. due.0))

-- the answer to `gen`
pub piped : (number : ℕ) (checked : Answer_data) (text summary : List ℕ) (verdict : Verdict)
    → AnswersText (on_document.Check (record { bound = DEFAULT_BOUND; derivations = false })) (pipeline_text (pipeline_of number)) checked → summary ≡ pipeline_summary (pipeline_of number)
    → text ≡ summary ++ checked.text
    → verdict ≡ checked.verdict → AnswersPipeline number (record { text = text; verdict = verdict })
piped number checked text summary verdict h s t v =
    record {
      checked = checked;
      checks = h;
      joined = ap (λ z. record { text = z; verdict = verdict }) (t ∙ ap (λ z. z ++ checked.text) s) ∙ ap (λ z. record { text = pipeline_summary (pipeline_of number) ++ checked.text; verdict = z }) v;
    }

-- the input is too long
long_answer : (t : Task) (bytes : List ℕ) (a : Answer_data) → ReadsTheInput t → MOST_BYTES < length bytes → a ≡ too_large (codes "text") → Gives t bytes (record { answer = a; closed = None })
long_answer (task.OnDocument t) bytes a reads long is = (IsTooLong long is, λ due. alone a _ is (λ e. e) due.1)
long_answer (task.OnData t) bytes a reads long is = (DataIsTooLong long is, λ due. alone a _ is (λ e. e) due.1)
long_answer (task.Gen number) bytes a reads long is = absurd reads

pub long_alone : (t : Task) (bytes : List ℕ) (a : Answer_data) → ReadsTheInput t → MOST_BYTES < length bytes → a ≡ too_large (codes "text") → HoldsAlone (Gives t bytes) a
long_alone t bytes a reads long is = gives_alone t bytes a (λ answer same. long_answer t bytes answer reads long (same ∙ is))

-- ---- what is made ready for words

-- all that may come of what is made ready holds of a fact
abbrev pub Leads : Workers → (AnswerWithSession → Type 0) → Prepared → Type 0
Leads workers fact p = (given : AnswerWithSession) → ComesOf workers p given → fact given

pub is_ready : (workers : Workers) (fact : AnswerWithSession → Type 0) (r : Result Prepared NoMemory) → IfOk r (λ p. Warrants workers p fact) → IfOk r (IsReadyFor workers)
is_ready workers fact r h = IfOk-weaker r _ _ (λ p l. l.ready) h

pub leads : (workers : Workers) (fact other : AnswerWithSession → Type 0) (r : Result Prepared NoMemory) → ((g : AnswerWithSession) → fact g → other g) → IfOk r (λ p. Warrants workers p fact)
    → IfOk r (Leads workers other)
leads workers fact other r next h = IfOk-weaker r _ _ (λ p l given comes. next given (l.given given comes)) h

-- the answer of the task that the words spell is the answer to the words
to_words : (words : List (List ℕ)) (t : Task) (bytes : List ℕ) (a : AnswerWithSession) → SpellsTask words t → Gives t bytes a → GivesTo words bytes a
to_words words t bytes a s h = (CarriesOut t s h.0, ForTask t s h.1)

-- what was made, among the reasons to stop
of_made : {A : Type 0} (r : Result A NoMemory) (s : Result A CallStop) (P : A → Type 0) → IfOk s (λ a. r ≡ Ok a) → IfOk r P → IfOk s P
of_made {A} r (Ok a) P is h = subst (λ (x : Result A NoMemory). IfOk x P) is h
of_made r (Err e) P is h = tt

on_ok : {A : Type 0} (s : Result A CallStop) (X : Type 0) → X → OnOk s X
on_ok (Ok a) X h = h
on_ok (Err e) X h = tt

module _ {S : Type 0} (words : List (List ℕ)) (t : Task) (input : CallInput S) (spells : SpellsTask words t) where
  -- a task that reads the input
  pub prepares_reading : (r : Result Prepared CallStop) (made : Result Prepared NoMemory) → ReadsTheInput t → IfOk r (λ p. made ≡ Ok p) → (r ≡ Err stop.ReadFault → ⊥)
      → IfOk made (IsReadyFor (workers_of t))
      → IfSome input.left (λ bytes. IfOk made (Leads (workers_of t) (Gives t bytes))) → IfSome input.left (λ bytes. length bytes ≤ MOST_BYTES → IsAtEnd input.later)
      → Prepares words input (workers_of t) r
  prepares_reading r made reads is never ready told end = record {
    ready = of_made made r _ is ready;
    leads = of_made made r _ is (go input.left told);
    end = λ read. ended input.left end;
    unread = λ none. absurd (none (t, spells, reads));
    read_fault = λ e. absurd (never e);
  }
    where
      go : (o : Option (List ℕ)) → IfSome o (λ bytes. IfOk made (Leads (workers_of t) (Gives t bytes))) → IfOk made (Leads (workers_of t) (λ g. ForInput words o (λ bytes. GivesTo words bytes g)))
      go (Some bytes) h = IfOk-weaker made _ _ (λ p l given comes. record { told = to_words words t bytes given spells (l given comes); unread = λ none other. absurd (none (t, spells, reads)) }) h
      go None h = IfOk-weaker made _ _ (λ p l given comes. record { told = tt; unread = λ none other. absurd (none (t, spells, reads)) }) ready

      ended : (o : Option (List ℕ)) → IfSome o (λ bytes. length bytes ≤ MOST_BYTES → IsAtEnd input.later) → IfSome o (λ bytes. length bytes ≤ MOST_BYTES → OnOk r (IsAtEnd input.later))
      ended (Some bytes) h = λ short. on_ok r _ (h short)
      ended None h = tt

-- a task that reads nothing
pub prepares_unread : {S : Type 0} (words : List (List ℕ)) (t : Task) (input : CallInput S) → SpellsTask words t → input.behind ≡ input.source
    → (r : Result Prepared CallStop) (made : Result Prepared NoMemory) → (ReadsTheInput t → ⊥)
    → IfOk r (λ p. made ≡ Ok p) → (r ≡ Err stop.ReadFault → ⊥) → IfOk made (IsReadyFor (workers_of t)) → IfOk made (Leads (workers_of t) (λ g. (bytes : List ℕ) → Gives t bytes g))
    → Prepares words input (workers_of t) r
prepares_unread words t input spells same r made unread is never ready told = record {
  ready = of_made made r _ is ready;
  leads = of_made made r _ is (IfOk-weaker made _ _ (λ p l given comes. for_any words input.left _ (λ bytes. to_words words t bytes given spells (l given comes bytes))) told);
  end = λ read. absurd (unread (subst ReadsTheInput (words_spell_one_task words read.0 t read.1 spells) read.2));
  unread = λ none. same;
  read_fault = λ e. absurd (never e);
}

-- ---- what is answered to words

-- what was made ready is run
pub answers_run : {S : Type 0} (words : List (List ℕ)) (input : CallInput S) (workers : Workers) (p : Prepared) (ran : Result AnswerWithSession NoMemory) (r : Result AnswerWithSession CallStop)
    → Prepares words input workers (Ok p) → IfOk r (λ a. ran ≡ Ok a) → (r ≡ Err stop.ReadFault → ⊥) → IfOk ran (ComesOf workers p)
    → AnswersTo words input r
answers_run words input workers p ran r made is never comes = record {
  answer = of_made ran r _ is (IfOk-weaker ran _ _ (λ a h. made.leads a h) comes);
  end = λ read. ended input.left (made.end read);
  unread = made.unread;
  read_fault = λ e. absurd (never e);
}
  where
    ended : (o : Option (List ℕ)) → IfSome o (λ bytes. length bytes ≤ MOST_BYTES → IsAtEnd input.later) → IfSome o (λ bytes. length bytes ≤ MOST_BYTES → OnOk r (IsAtEnd input.later))
    ended (Some bytes) h = λ short. on_ok r _ (h short)
    ended None h = tt

-- nothing was made ready
pub answers_stopped : {S : Type 0} (words : List (List ℕ)) (input : CallInput S) (workers : Workers) (why : CallStop) → Prepares words input workers (Err why) → AnswersTo words input (Err why)
answers_stopped words input workers why made = record {
  answer = tt;
  end = λ read. where_told input.left _ (λ bytes short. tt);
  unread = made.unread;
  read_fault = λ e. made.read_fault (ap (λ (w : CallStop). stopped_by w) (same_stop why stop.ReadFault e));
}
  where
    stopped_by : CallStop → Result Prepared CallStop
    stopped_by x = Err x

    given_none : CallStop → Result AnswerWithSession CallStop
    given_none x = Err x

    same_stop : (x y : CallStop) → given_none x ≡ given_none y → x ≡ y
    same_stop x y e = cc (e)

-- words that spell no task
pub answers_nothing : {S : Type 0} (words : List (List ℕ)) (input : CallInput S) (r : Result AnswerWithSession CallStop) → input.behind ≡ input.source → IsMeaning words None
    → IfOk r (λ a. (a.answer ≡ usage) × (a.closed ≡ None)) → (r ≡ Err stop.ReadFault → ⊥) → AnswersTo words input r
answers_nothing words input r same none told fault = record {
  answer = IfOk-weaker r _ _ (λ a h. for_any words input.left _ (λ bytes. (SpellsNothing none h.0, ForNothing none h.1))) told;
  end = λ read. absurd (nothing_reads words none read);
  unread = λ _. same;
  read_fault = λ e. absurd (fault e);
}

-- words of a task that one worker carries out don't ask for several
pub not_asked : (words : List (List ℕ)) (t : Task) → SpellsTask words t → workers_of t ≡ One → AskForWorkers words → ⊥
not_asked words t s one asks =
    let several : workers_of t ≡ Several asks.1 = subst (λ (x : Task). workers_of x ≡ Several asks.1) (words_spell_one_task words asks.0 t asks.2 s) asks.3 in
    let no : One ≡ Several asks.1 = sym one ∙ several in cc
