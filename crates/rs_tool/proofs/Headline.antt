-- An accepted text spells safe machines.
use Rattle.std.proofs.Common.{◌≡◌, ℕ, List, [], Bool, false, refl, sym, ap, ◌∙◌, subst}
use Rattle.std.specs.Io.KnownBytes.{Appends}
use Rattle.std.specs.Prelude.{IfSome}
use Rattle.rs_core.specs.Safety.{IsSafe}
use Rattle.rs_answers.proofs.Derivings.{canonical_safe, session_of}
use Rattle.rs_documents.proofs.SpeltSessions.{spelt_session}
use Rattle.rs_answers.proofs.Improvements.{whole_is_verified}
use Rattle.rs_answers.specs.Migrates as migrating
use Rattle.rs_answers.specs.Migrates.{Migrates}
use Rattle.rs_answers.specs.Verifying as verifying
use Rattle.rs_answers.specs.Verifying.{IsVerified, Verifies}
use Rattle.rs_answers.proofs.Verified.{verified_safe}
use Rattle.rs_documents.proofs.Spelt.{one_place_each, spelt_machines}
use Rattle.rs_text.specs.declared.faults.TextKind.{TextKind}
use Rattle.rs_tool.specs.Statuses.{status_of}
use Rattle.rs_tool.specs.Data.{Call, CallOutput}
use Rattle.rs_tool.specs.declared.statuses.Reply.{Reply}
use Rattle.rs_tool.specs.declared.statuses.Status.{Status}
use Rattle.rs_tool.specs.declared.statuses.Status.TheVariants as status
use Rattle.rs_tool.specs.Pipelines.{pipeline_text, pipeline_of}
use Rattle.rs_tool.specs.Answers.{Answers, SpellsNothing, CarriesOut, AnswersPipeline, AnswersText, IsTooLong, IsFaulty, IsDocument, AnswersDocument, AnswersTask, fault_answer_of}
use Rattle.rs_tool.specs.Calls.{Ends, Tells, TellsAll, TellsPart, TellsReadFault, TellsNoMemory}
use Rattle.rs_answers.proofs.Refusing.{IsRefusing, fault_refuses, refusal_refuses}
use Rattle.rs_answers.specs.declared.verdicts.Verdict.{Verdict}
use Rattle.rs_answers.specs.declared.verdicts.Verdict.TheVariants as verdict
use Rattle.rs_answers.specs.Checks as checks
use Rattle.rs_answers.specs.Checks.{Checks}
use Rattle.rs_documents.specs.Data.{Document_data}
use Rattle.rs_answers.specs.Data.{Answer_data}
use Rattle.rs_answers.specs.RefusalTexts.{fault_answer}
use Rattle.rs_answers.specs.Derivations.{AreCanonical}
use Rattle.rs_documents.specs.Documents.{SpellsDocument}
use Rattle.rs_answers.specs.Refusals.{refusal_answer}
use Rattle.rs_answers.specs.Sessions.{HasMachines}
use Rattle.rs_model.specs.declared.limits.TheConstants.{DEFAULT_BOUND}
use Rattle.rs_answers.specs.declared.refusals.Refusal.{Refusal}
use Rattle.rs_derive.specs.Data.{Derivation_data}
use Rattle.rs_reasons.specs.Explains.{Explains}
use Rattle.rs_reasons.proofs.OneExplanation.{explains_as_check}
use Rattle.rs_model.specs.Data.{Machine_data, Names_data}
use Rattle.rs_model.specs.Limits.{IsBound}
use Rattle.rs_project.specs.Data.{Projection_data}
use Rattle.rs_tool.specs.Headline.{SpellsSafeMachines}
use Rattle.rs_tool.specs.ImproveHeadline.{WritesSafeMachines}
use Rattle.rs_tool.specs.RunHeadline.{IsOfRun}
use Rattle.rs_runs.specs.Pools as pools
use Rattle.rs_runs.specs.Pools.{RunsByWorkers, RunsWith}
use Rattle.rs_runs.specs.Runs as runs
use Rattle.rs_runs.specs.Runs.{Runs}
use Rattle.rs_run_pictures.specs.Draws as drawing
use Rattle.rs_run_pictures.specs.Draws.{DrawsRun}
use Rattle.rs_model.specs.declared.runs.RunOptions.{RunOptions}
use Rattle.rs_model.specs.declared.runs.Workers.{Workers}
use Rattle.rs_model.specs.declared.runs.Workers.TheVariants.{One, Several}
use Rattle.rs_tool.specs.Tasks.{ReadTheInput, ReadsTheInput, SpellsCheck, SpellsDrawnRun, SpellsExplain, SpellsImprove, SpellsMigrate, SpellsRun, SpellsVerify}
use Rattle.rs_words.specs.Meaning.{SpellsTask}
use Rattle.rs_words.proofs.Exact.{words_spell_one_task}
use Rattle.rs_words.proofs.Ranges.{spelt_numbers_are_in_range}
use Rattle.rs_words.specs.declared.tasks.ImproveOptions.{ImproveOptions}
use Rattle.rs_tool.proofs.Answering.{if_told}
use Rattle.rs_words.specs.declared.tasks.DocumentTask.{DocumentTask}
use Rattle.rs_words.specs.declared.tasks.DocumentTask.TheVariants as on_document
use Rattle.rs_words.specs.declared.tasks.Task.{Task}
use Rattle.rs_words.specs.declared.tasks.Task.TheVariants as task

-- an answer that isn't that of a session which was accepted
abbrev pub IsNoRun : Answer_data → Type 0
IsNoRun a = IsOfRun (status_of a.verdict) → ⊥

pub no_run : (a b : Answer_data) → a ≡ b → IsNoRun b → IsNoRun a
no_run a b e h = subst IsNoRun (sym e) h

refusing_is_no_run : (v : Verdict) → IsRefusing v → IsOfRun (status_of v) → ⊥
refusing_is_no_run verdict.Fine h e = h
refusing_is_no_run verdict.Refused h e = e
refusing_is_no_run verdict.Usage h e = e
refusing_is_no_run verdict.Malformed h e = e
refusing_is_no_run verdict.Unprojectable h e = e
refusing_is_no_run verdict.TooLarge h e = e
refusing_is_no_run verdict.Stopped h e = h
refusing_is_no_run verdict.Full h e = h
refusing_is_no_run verdict.RoomTooSmall h e = e

-- what a task says of a fault has the verdict of a check
pub fault_verdict : (t : DocumentTask) (bytes : List ℕ) (k : TextKind) (at : ℕ) → (fault_answer_of t bytes k at).verdict ≡ (fault_answer bytes k at).verdict
fault_verdict (on_document.Check options) bytes k at = refl
fault_verdict on_document.Verify bytes k at = refl
fault_verdict on_document.Migrate bytes k at = refl
fault_verdict on_document.Show bytes k at = refl
fault_verdict on_document.Project bytes k at = refl
fault_verdict (on_document.Run options workers) bytes k at = refl
fault_verdict (on_document.Improve options) bytes k at = refl
fault_verdict (on_document.Explain bound) bytes k at = refl
fault_verdict (on_document.Draw role) bytes k at = refl
fault_verdict (on_document.DrawRun options) bytes k at = refl

pub fault_is_no_run : (t : DocumentTask) (bytes : List ℕ) (k : TextKind) (at : ℕ) → IsNoRun (fault_answer_of t bytes k at)
fault_is_no_run t bytes k at run = refusing_is_no_run ((fault_answer bytes k at).verdict) (fault_refuses bytes k at) (subst (λ (v : Verdict). IsOfRun (status_of v)) (fault_verdict t bytes k at) run)

pub refusal_is_no_run : (names : Names_data) (r : Refusal) → IsNoRun (refusal_answer names r)
refusal_is_no_run names r = refusing_is_no_run ((refusal_answer names r).verdict) (refusal_refuses names r)

-- machines that have derivations are safe
pub derived_is_safe : (bound : ℕ) (bytes : List ℕ) (d : Document_data) (projections : List Projection_data) (machines : List Machine_data) (derivations : List Derivation_data) → SpellsDocument bytes d
    → HasMachines d projections machines
    → AreCanonical bound machines projections derivations → SpellsSafeMachines bytes
derived_is_safe bound bytes d projections machines derivations doc h found =
    let spelt = spelt_session bytes d doc in
    let spells = spelt_machines bytes d doc in
    let session = session_of d projections machines spelt h.projections_are.well_formed h.projections_are.projected h.machines_are h.well_formed in
    record {
      protocol = d.protocol;
      machines = d.machines;
      projections = projections;
      spells = spells;
      well_formed = session.well_formed;
      projected = h.projections_are.projected;
      one_each = one_place_each bytes d.protocol d.machines spells;
      safe = subst IsSafe h.machines_are (canonical_safe bound d.protocol projections machines derivations session found);
    }

checked_is_safe : (bound : ℕ) (asked : Bool) (bytes : List ℕ) (d : Document_data) (a : Answer_data) → SpellsDocument bytes d → Checks bound asked d a → IsOfRun (status_of a.verdict)
    → SpellsSafeMachines bytes
checked_is_safe bound asked bytes d a doc (checks.IsRefused r h is) run = absurd (no_run a _ is (refusal_is_no_run d.names r) run)
checked_is_safe bound asked bytes d a doc (checks.IsAccepted projections machines derivations h found is) run = derived_is_safe bound bytes d projections machines derivations doc h found

-- `explain` answers with the status of `check`
explained_is_safe : (bound : ℕ) (bytes : List ℕ) (d : Document_data) (a : Answer_data) → SpellsDocument bytes d → Explains bound bytes d a → IsOfRun (status_of a.verdict) → SpellsSafeMachines bytes
explained_is_safe bound bytes d a doc h run =
    let c = explains_as_check bound bytes d a h in
    checked_is_safe bound false bytes d c.checked doc c.checks (subst (λ (v : Verdict). IsOfRun (status_of v)) c.verdict run)

run_is_safe : (options : RunOptions) (bytes : List ℕ) (d : Document_data) (a : Answer_data) → SpellsDocument bytes d → Runs options d a → IsOfRun (status_of a.verdict) → SpellsSafeMachines bytes
run_is_safe options bytes d a doc (runs.IsRefused r h is) run = absurd (no_run a _ is (refusal_is_no_run d.names r) run)
run_is_safe options bytes d a doc (runs.IsRun projections machines derivations h found tells) run = derived_is_safe options.bound bytes d projections machines derivations doc h found

pool_is_safe : (options : RunOptions) (bytes : List ℕ) (d : Document_data) (a : Answer_data) → SpellsDocument bytes d → RunsByWorkers options d a → IsOfRun (status_of a.verdict)
    → SpellsSafeMachines bytes
pool_is_safe options bytes d a doc (pools.IsRefused r h is) run = absurd (no_run a _ is (refusal_is_no_run d.names r) run)
pool_is_safe options bytes d a doc (pools.IsAccepted projections machines derivations h found tells) run = derived_is_safe options.bound bytes d projections machines derivations doc h found

runs_with_are_safe : (options : RunOptions) (workers : Workers) (bytes : List ℕ) (d : Document_data) (a : Answer_data) → SpellsDocument bytes d → RunsWith workers options d a
    → IsOfRun (status_of a.verdict) → SpellsSafeMachines bytes
runs_with_are_safe options One bytes d a doc h run = run_is_safe options bytes d a doc h run
runs_with_are_safe options (Several n) bytes d a doc h run = pool_is_safe options bytes d a doc h run

drawn_run_is_safe : (options : RunOptions) (bytes : List ℕ) (d : Document_data) (a : Answer_data) → SpellsDocument bytes d → DrawsRun options d a → IsOfRun (status_of a.verdict)
    → SpellsSafeMachines bytes
drawn_run_is_safe options bytes d a doc (drawing.IsRefused r h is) run = absurd (no_run a _ is (refusal_is_no_run d.names r) run)
drawn_run_is_safe options bytes d a doc (drawing.IsDrawn projections machines derivations h found drawn) run = derived_is_safe options.bound bytes d projections machines derivations doc h found

-- machines whose document is verified are safe
own_is_safe : (bytes : List ℕ) (d : Document_data) (ps : List Projection_data) (ms : List Machine_data) → SpellsDocument bytes d → IsVerified d ps ms → SpellsSafeMachines bytes
own_is_safe bytes d ps ms doc verified =
    let h = verified.has in
    let spelt = spelt_session bytes d doc in
    let spells = spelt_machines bytes d doc in
    let session = session_of d ps ms spelt h.projections_are.well_formed h.projections_are.projected h.machines_are h.well_formed in
    record {
      protocol = d.protocol;
      machines = d.machines;
      projections = ps;
      spells = spells;
      well_formed = session.well_formed;
      projected = h.projections_are.projected;
      one_each = one_place_each bytes d.protocol d.machines spells;
      safe = subst IsSafe h.machines_are (verified_safe d.protocol d.derivations ms ps session (spelt.a_derivation_each ∙ spelt.roles) verified.none);
    }

verify_is_safe : (bytes : List ℕ) (d : Document_data) (a : Answer_data) → SpellsDocument bytes d → Verifies d a → IsOfRun (status_of a.verdict) → SpellsSafeMachines bytes
verify_is_safe bytes d a doc (verifying.IsRefused r h is) run = absurd (no_run a _ is (refusal_is_no_run d.names r) run)
verify_is_safe bytes d a doc (verifying.IsReported ps ms h is) run = own_is_safe bytes d ps ms doc h

migrate_is_safe : (bytes : List ℕ) (d : Document_data) (a : Answer_data) → SpellsDocument bytes d → Migrates d a → IsOfRun (status_of a.verdict) → SpellsSafeMachines bytes
migrate_is_safe bytes d a doc (migrating.IsRefused r h is) run = absurd (no_run a _ is (refusal_is_no_run d.names r) run)
migrate_is_safe bytes d a doc (migrating.IsMigrated ps ms h shows) run = own_is_safe bytes d ps ms doc h

-- what a task answers to a document tells that its machines are safe
abbrev TellsSafe : DocumentTask → List ℕ → Answer_data → Type 0
TellsSafe t bytes a = (d : Document_data) → SpellsDocument bytes d → AnswersDocument t bytes d a → IsOfRun (status_of a.verdict) → SpellsSafeMachines bytes

text_is_safe : (t : DocumentTask) (bytes : List ℕ) (a : Answer_data) → TellsSafe t bytes a → AnswersText t bytes a → IsOfRun (status_of a.verdict) → SpellsSafeMachines bytes
text_is_safe t bytes a safe (IsDocument short d h answers) run = safe d h answers run
text_is_safe t bytes a safe (IsTooLong long is) run = absurd (no_run a _ is (λ e. e) run)
text_is_safe t bytes a safe (IsFaulty short k at h is) run = absurd (no_run a _ is (fault_is_no_run t bytes k at) run)

-- what the words ask for is safe, where it was carried out on an accepted session
checks_safely : (bound : ℕ) (asked : Bool) (bytes : List ℕ) (a : Answer_data) → AnswersText (on_document.Check (record { bound = bound; derivations = asked })) bytes a → IsOfRun (status_of a.verdict)
    → SpellsSafeMachines bytes
checks_safely bound asked bytes a h run = text_is_safe (on_document.Check (record { bound = bound; derivations = asked })) bytes a (λ d doc k is. checked_is_safe bound asked bytes d a doc k is) h run

explains_safely : (bound : ℕ) (bytes : List ℕ) (a : Answer_data) → AnswersText (on_document.Explain bound) bytes a → IsOfRun (status_of a.verdict) → SpellsSafeMachines bytes
explains_safely bound bytes a h run = text_is_safe (on_document.Explain bound) bytes a (λ d doc k is. explained_is_safe bound bytes d a doc k is) h run

verifies_safely : (bytes : List ℕ) (a : Answer_data) → AnswersText on_document.Verify bytes a → IsOfRun (status_of a.verdict) → SpellsSafeMachines bytes
verifies_safely bytes a h run = text_is_safe on_document.Verify bytes a (λ d doc k is. verify_is_safe bytes d a doc k is) h run

migrates_safely : (bytes : List ℕ) (a : Answer_data) → AnswersText on_document.Migrate bytes a → IsOfRun (status_of a.verdict) → SpellsSafeMachines bytes
migrates_safely bytes a h run = text_is_safe on_document.Migrate bytes a (λ d doc k is. migrate_is_safe bytes d a doc k is) h run

runs_safely : (options : RunOptions) (workers : Workers) (bytes : List ℕ) (a : Answer_data) → AnswersText (on_document.Run options workers) bytes a → IsOfRun (status_of a.verdict)
    → SpellsSafeMachines bytes
runs_safely options workers bytes a h run = text_is_safe (on_document.Run options workers) bytes a (λ d doc k is. runs_with_are_safe options workers bytes d a doc k is) h run

draws_safely : (options : RunOptions) (bytes : List ℕ) (a : Answer_data) → AnswersText (on_document.DrawRun options) bytes a → IsOfRun (status_of a.verdict) → SpellsSafeMachines bytes
draws_safely options bytes a h run = text_is_safe (on_document.DrawRun options) bytes a (λ d doc k is. drawn_run_is_safe options bytes d a doc k is) h run

pipes_safely : (number : ℕ) (a : Answer_data) → AnswersPipeline number a → IsOfRun (status_of a.verdict) → SpellsSafeMachines (pipeline_text (pipeline_of number))
pipes_safely number a h run =
    let checked : IsOfRun (status_of h.checked.verdict) = subst (λ (z : Answer_data). IsOfRun (status_of z.verdict)) h.joined run in
    checks_safely DEFAULT_BOUND false (pipeline_text (pipeline_of number)) h.checked h.checks checked

-- the answer to the words is that of the task that they spell
pub task_is_answered : (words : List (List ℕ)) (t : Task) (bytes : List ℕ) (a : Answer_data) → SpellsTask words t → Answers words bytes a → AnswersTask t bytes a
task_is_answered words t bytes a s (SpellsNothing none is) = absurd (none t s)
task_is_answered words t bytes a s (CarriesOut u r h) = subst (λ (x : Task). AnswersTask x bytes a) (words_spell_one_task words u t r s) h

pub told_is_run : {K : Type 0} (words : List (List ℕ)) (t : Task) (bytes : List ℕ) (output : CallOutput K) (reply : Reply) → SpellsTask words t → Tells words bytes output reply → IsOfRun reply.status
    → (a : Answer_data) × AnswersTask t bytes a × IsOfRun (status_of a.verdict)
told_is_run words t bytes output reply spells (TellsAll a h session text is) run = (a, task_is_answered words t bytes a spells h, subst IsOfRun is run)
told_is_run words t bytes output reply spells (TellsPart a h session text is) run = absurd (subst IsOfRun is run)
told_is_run words t bytes output reply spells (TellsReadFault keeps is none) run = absurd (subst IsOfRun is run)
told_is_run words t bytes output reply spells (TellsNoMemory keeps is none) run = absurd (subst IsOfRun is run)

-- what was written where the status is that all is fine
record WasWritten {K : Type 0} (words : List (List ℕ)) (bytes : List ℕ) (output : CallOutput K) : Type 0 where
  answer : Answer_data
  answers : Answers words bytes answer
  written : Appends output.written output.later answer.text
  fine : answer.verdict ≡ verdict.Fine

fine_verdict : (v : Verdict) → status_of v ≡ status.Fine → v ≡ verdict.Fine
fine_verdict verdict.Fine e = refl
fine_verdict verdict.Refused e = absurd cc
fine_verdict verdict.Usage e = absurd cc
fine_verdict verdict.Malformed e = absurd cc
fine_verdict verdict.Unprojectable e = absurd cc
fine_verdict verdict.TooLarge e = absurd cc
fine_verdict verdict.Stopped e = absurd cc
fine_verdict verdict.Full e = absurd cc
fine_verdict verdict.RoomTooSmall e = absurd cc

told_is_written : {K : Type 0} (words : List (List ℕ)) (bytes : List ℕ) (output : CallOutput K) (reply : Reply) → Tells words bytes output reply → reply.status ≡ status.Fine
    → WasWritten words bytes output
told_is_written words bytes output reply (TellsAll a h session text is) fine =
    record { answer = a; answers = h; written = text; fine = fine_verdict a.verdict (sym is ∙ fine) }
told_is_written words bytes output reply (TellsPart a h session text is) fine = let no = sym is ∙ fine in absurd cc
told_is_written words bytes output reply (TellsReadFault keeps is none) fine = let no = sym is ∙ fine in absurd cc
told_is_written words bytes output reply (TellsNoMemory keeps is none) fine = let no = sym is ∙ fine in absurd cc

-- what `improve` writes spells safe machines
improves_safely : (options : ImproveOptions) (bytes : List ℕ) (a : Answer_data) → IsBound options.bound → AnswersText (on_document.Improve options) bytes a → a.verdict ≡ verdict.Fine
    → SpellsSafeMachines a.text
improves_safely options bytes a within (IsDocument short d doc h) fine =
    let v = whole_is_verified options.role options.bound options.swaps bytes d a within doc h fine in
    own_is_safe a.text v.document v.projections v.machines v.spells v.verified
improves_safely options bytes a within (IsTooLong long is) fine = let no = sym (ap (λ (z : Answer_data). z.verdict) is) ∙ fine in absurd cc
improves_safely options bytes a within (IsFaulty short k at h is) fine = absurd (no_run a _ is (fault_is_no_run (on_document.Improve options) bytes k at) (subst (λ (v : Verdict). IsOfRun (status_of v)) (sym fine) tt))

-- the same of answers to words
pub migrated_answer_is_safe : (words : List (List ℕ)) (bytes : List ℕ) (a : Answer_data) → SpellsMigrate words → Answers words bytes a → IsOfRun (status_of a.verdict) → SpellsSafeMachines bytes
migrated_answer_is_safe words bytes a spells h run = migrates_safely bytes a (task_is_answered words (task.OnDocument on_document.Migrate) bytes a spells h) run

pub run_answer_is_safe : (words : List (List ℕ)) (options : RunOptions) (bytes : List ℕ) (a : Answer_data) → SpellsRun words options → Answers words bytes a → IsOfRun (status_of a.verdict)
    → SpellsSafeMachines bytes
run_answer_is_safe words options bytes a spells h run =
    runs_safely options spells.0 bytes a (task_is_answered words (task.OnDocument (on_document.Run options spells.0)) bytes a spells.1 h) run

pub drawn_answer_is_safe : (words : List (List ℕ)) (options : RunOptions) (bytes : List ℕ) (a : Answer_data) → SpellsDrawnRun words options → Answers words bytes a → IsOfRun (status_of a.verdict)
    → SpellsSafeMachines bytes
drawn_answer_is_safe words options bytes a spells h run = draws_safely options bytes a (task_is_answered words (task.OnDocument (on_document.DrawRun options)) bytes a spells h) run

pub improved_answer_is_safe : (words : List (List ℕ)) (bytes : List ℕ) (a : Answer_data) → SpellsImprove words → Answers words bytes a → a.verdict ≡ verdict.Fine → SpellsSafeMachines a.text
improved_answer_is_safe words bytes a spells h fine =
    let within = (spelt_numbers_are_in_range words (task.OnDocument (on_document.Improve spells.0)) spells.1).0 in
    improves_safely spells.0 bytes a within (task_is_answered words (task.OnDocument (on_document.Improve spells.0)) bytes a spells.1 h) fine

fine_is_run : (s : Status) → s ≡ status.Fine → IsOfRun s
fine_is_run s e = subst IsOfRun (sym e) tt

module _ {S K : Type 0} (call : Call S K) (reply : Reply) (ends : Ends call reply) where
  pub fine_is_safe : (bound : ℕ) → SpellsCheck call.words bound → IfSome call.input.left (λ bytes. reply.status ≡ status.Fine → SpellsSafeMachines bytes)
  fine_is_safe bound check = if_told call.input.left _ _ (λ bytes told fine.
      let is = told_is_run call.words (task.OnDocument (on_document.Check (record { bound = bound; derivations = check.0 }))) bytes call.output reply check.1 told (fine_is_run reply.status fine) in
      checks_safely bound check.0 bytes is.0 is.1 is.2) ends.answer.told

  pub explained_is_fine : (bound : ℕ) → SpellsExplain call.words bound → IfSome call.input.left (λ bytes. reply.status ≡ status.Fine → SpellsSafeMachines bytes)
  explained_is_fine bound spells = if_told call.input.left _ _ (λ bytes told fine.
      let is = told_is_run call.words (task.OnDocument (on_document.Explain bound)) bytes call.output reply spells told (fine_is_run reply.status fine) in
      explains_safely bound bytes is.0 is.1 is.2) ends.answer.told

  pub verified_is_safe : SpellsVerify call.words → IfSome call.input.left (λ bytes. reply.status ≡ status.Fine → SpellsSafeMachines bytes)
  verified_is_safe spells = if_told call.input.left _ _ (λ bytes told fine.
      let is = told_is_run call.words (task.OnDocument on_document.Verify) bytes call.output reply spells told (fine_is_run reply.status fine) in
      verifies_safely bytes is.0 is.1 is.2) ends.answer.told

  pub migrated_is_safe : SpellsMigrate call.words → IfSome call.input.left (λ bytes. reply.status ≡ status.Fine → SpellsSafeMachines bytes)
  migrated_is_safe spells = if_told call.input.left _ _ (λ bytes told fine.
      let is = told_is_run call.words (task.OnDocument on_document.Migrate) bytes call.output reply spells told (fine_is_run reply.status fine) in
      migrates_safely bytes is.0 is.1 is.2) ends.answer.told

  pub improved_is_safe : SpellsImprove call.words → IfSome call.input.left (λ bytes. reply.status ≡ status.Fine → WritesSafeMachines call.words bytes call.output)
  improved_is_safe spells = if_told call.input.left _ _ (λ bytes told fine.
      let within = (spelt_numbers_are_in_range call.words (task.OnDocument (on_document.Improve spells.0)) spells.1).0 in
      let w = told_is_written call.words bytes call.output reply told fine in
      let answers = task_is_answered call.words (task.OnDocument (on_document.Improve spells.0)) bytes w.answer spells.1 w.answers in
      record { answer = w.answer; answers = w.answers; written = w.written; safe = improves_safely spells.0 bytes w.answer within answers w.fine }) ends.answer.told

  pub runs_are_safe : (options : RunOptions) → SpellsRun call.words options → IfSome call.input.left (λ bytes. IsOfRun reply.status → SpellsSafeMachines bytes)
  runs_are_safe options spells = if_told call.input.left _ _ (λ bytes told run.
      let is = told_is_run call.words (task.OnDocument (on_document.Run options spells.0)) bytes call.output reply spells.1 told run in
      runs_safely options spells.0 bytes is.0 is.1 is.2) ends.answer.told

  pub drawn_runs_are_safe : (options : RunOptions) → SpellsDrawnRun call.words options → IfSome call.input.left (λ bytes. IsOfRun reply.status → SpellsSafeMachines bytes)
  drawn_runs_are_safe options spells = if_told call.input.left _ _ (λ bytes told run.
      let is = told_is_run call.words (task.OnDocument (on_document.DrawRun options)) bytes call.output reply spells told run in
      draws_safely options bytes is.0 is.1 is.2) ends.answer.told

  pub pipeline_is_safe : (number : ℕ) → SpellsTask call.words (task.Gen number) → reply.status ≡ status.Fine → SpellsSafeMachines (pipeline_text (pipeline_of number))
  pipeline_is_safe number spells fine =
      let none : ReadTheInput call.words → ⊥ = λ read. subst ReadsTheInput (words_spell_one_task call.words read.0 (task.Gen number) read.1 spells) read.2 in
      let is = told_is_run call.words (task.Gen number) [] call.output reply spells (ends.answer.unread none []) (fine_is_run reply.status fine) in
      pipes_safely number is.0 is.1 is.2
