-- There is an answer to all words and bytes.
use Rattle.std.proofs.Common.{◌≡◌, ℕ, ◌++◌, List, length, map, Bool, true, false, Option, Some, None, refl, inl, inr, arith}
use Rattle.std.specs.Prelude.{codes}
use Rattle.std.proofs.lemmas.Bool.Decides.{leb_tells}
use Rattle.rs_model.specs.declared.limits.TheConstants.{MOST_BYTES}
use Rattle.rs_model.specs.declared.demos.Demo.{Demo}
use Rattle.rs_global.specs.Texts.{protocol_text}
use Rattle.rs_global.proofs.Canonical.{canonical_is_there}
use Rattle.rs_derive.specs.Data.{Derivation_data}
use Rattle.rs_tool.specs.Pipelines.{pipeline_text, pipeline_of, pipeline_summary}
use Rattle.rs_model.specs.declared.limits.TheConstants.{DEFAULT_BOUND}
use Rattle.rs_words.specs.Meaning.{IsMeaning}
use Rattle.rs_words.proofs.Exact.{words_mean_something}
use Rattle.rs_wellformed.specs.Faults.{first_fault}
use Rattle.rs_wellformed.specs.declared.checks.WfFault.{WfFault}
use Rattle.rs_wellformed.proofs.Faults.{no_fault}
use Rattle.rs_answers.specs.declared.verdicts.Verdict.TheVariants.{Fine}
use Rattle.rs_runs.proofs.SomeDemo.{some_demo}
use Rattle.rs_words.specs.declared.tasks.DocumentTask.{DocumentTask}
use Rattle.rs_words.specs.declared.tasks.DocumentTask.TheVariants as on_document
use Rattle.rs_words.specs.declared.tasks.Task.{Task}
use Rattle.rs_words.specs.declared.tasks.Task.TheVariants as task
use Rattle.rs_tool.specs.Answers.{Answers, SpellsNothing, CarriesOut, AnswersText, IsTooLong, IsFaulty, IsDocument, AnswersDocument, AnswersTask, AnswersData, DataIsTooLong, DataIsShort, fault_answer_of}
use Rattle.rs_answers.specs.Checks as checks
use Rattle.rs_answers.specs.Checks.{TellsAccepted}
use Rattle.rs_documents.specs.Data.{Document_data}
use Rattle.rs_answers.specs.Data.{Answer_data}
use Rattle.rs_documents.specs.Documents.{SpellsDocument}
use Rattle.rs_answers.specs.RefusalTexts.{usage, too_large, wf_answer, proj_answer}
use Rattle.rs_answers.specs.Refusals.{IsWithoutSession, HasNoDerivation, refusal_answer}
use Rattle.rs_answers.specs.Report.{report}
use Rattle.rs_answers.proofs.OneImproved.{some_improving}
use Rattle.rs_reasons.proofs.OneExplanation.{some_explaining}
use Rattle.rs_draw.proofs.OneDrawing.{some_drawing}
use Rattle.rs_run_pictures.proofs.OneRunPicture.{some_run_picture}
use Rattle.rs_runs.proofs.PoolAnswers.{some_with}
use Rattle.rs_answers.specs.Shown.{Shows}
use Rattle.rs_documents.specs.Canonical.{derivations_text}
use Rattle.rs_documents.proofs.OneCanonical.{some_lines}
use Rattle.rs_answers.specs.Tables as tables
use Rattle.rs_answers.specs.Tables.{tables_text}
use Rattle.rs_documents.proofs.CanShow.{role_names}
use Rattle.rs_documents.proofs.OneDocument.{spelt_or_faulty}
use Rattle.rs_answers.specs.Migrates as migrating
use Rattle.rs_answers.specs.Verifying as verifying
use Rattle.rs_answers.specs.Verifying.{HasNone, those_there}
use Rattle.rs_answers.proofs.Verified.{Fails, Passes, Tested, tested_by}
use Rattle.rs_answers.proofs.SomeSession.{Decision, AllProject, OneDoesnt, first_ones, Prepared, NotSo, Derived, prepared}

record Some_for (t : DocumentTask) (bytes : List ℕ) (d : Document_data) : Type 0 where
  answer : Answer_data
  answers : AnswersDocument t bytes d answer

tested : (d : Document_data) → Prepared 1 d → Tested d
tested d (NotSo why (IsWithoutSession r h)) = Fails r (HasNone r h)
tested d (NotSo why (HasNoDerivation ps ms h role fault u)) = tested_by d ps ms h
tested d (Derived ps ms ds h found) = tested_by d ps ms h

verified : (bytes : List ℕ) (d : Document_data) → Tested d → Some_for on_document.Verify bytes d
verified bytes d (Fails why h) = record { answer = refusal_answer d.names why; answers = verifying.IsRefused why h refl }
verified bytes d (Passes ps ms h) = record { answer = report d.names.roles (those_there d.derivations); answers = verifying.IsReported ps ms h refl }

tabled : (bytes : List ℕ) (d : Document_data) → first_fault d.protocol ≡ None → Decision d.protocol d.protocol.roles → Some_for on_document.Project bytes d
tabled bytes d none (OneDoesnt role fault h) = record { answer = proj_answer d.names fault; answers = tables.HasNoProjection none role fault h refl }
tabled bytes d none (AllProject projections h) =
    record { answer = record { text = tables_text d.names projections; verdict = Fine }; answers = tables.HasTables projections (record { well_formed = none; projected = h }) refl }

some_tables : (bytes : List ℕ) (d : Document_data) → (o : Option WfFault) → first_fault d.protocol ≡ o → Some_for on_document.Project bytes d
some_tables bytes d (Some f) e = record { answer = wf_answer d.names f; answers = tables.IsIllFormed f e refl }
some_tables bytes d None e = tabled bytes d e (first_ones d.protocol (no_fault d.protocol e) d.protocol.roles (omega arith))

shown_with : (bytes : List ℕ) (d : Document_data) (derivations : List (Option Derivation_data)) → SpellsDocument bytes d → (a : Answer_data) × Shows (record d { derivations = derivations }) a
shown_with bytes d derivations h =
    let r = role_names bytes d h in
    let enough = r.1 in
    let c = canonical_is_there d.names d.protocol r.3 enough.roles enough.labels in
    let l = some_lines d.names d.machines r.2 in (
      record { text = protocol_text c.0 ++ (l.0 ++ derivations_text d.names derivations); verdict = Fine },
      record {
        text = record { front = protocol_text c.0; back = l.0; protocol = record { tree = c.0; canonical = c.1; whole = refl }; machines = l.1; whole = refl };
        fine = refl;
      },
    )

shown : (bytes : List ℕ) (d : Document_data) → SpellsDocument bytes d → Some_for on_document.Show bytes d
shown bytes d h = let s = shown_with bytes d d.derivations h in record { answer = s.0; answers = s.1 }

migrated : (bytes : List ℕ) (d : Document_data) → SpellsDocument bytes d → Tested d → Some_for on_document.Migrate bytes d
migrated bytes d doc (Fails why h) = record { answer = refusal_answer d.names why; answers = migrating.IsRefused why h refl }
migrated bytes d doc (Passes ps ms h) = let s = shown bytes d doc in record { answer = s.answer; answers = migrating.IsMigrated ps ms h s.answers }

-- of an accepted session something is told, and it is fine
pub some_telling : (asked : Bool) (bytes : List ℕ) (d : Document_data) (derivations : List Derivation_data) → SpellsDocument bytes d
    → (a : Answer_data) × TellsAccepted asked d derivations a × (a.verdict ≡ Fine)
some_telling false bytes d derivations doc = (report d.names.roles derivations, refl, refl)
some_telling true bytes d derivations doc = let s = shown_with bytes d (map Some derivations) doc in (s.0, s.1, s.1.fine)

checked : (bound : ℕ) (asked : Bool) (bytes : List ℕ) (d : Document_data) → SpellsDocument bytes d → Prepared bound d → Some_for (on_document.Check (record { bound = bound; derivations = asked })) bytes d
checked bound asked bytes d doc (NotSo why h) = record { answer = refusal_answer d.names why; answers = checks.IsRefused why h refl }
checked bound asked bytes d doc (Derived projections machines derivations h found) =
    let t = some_telling asked bytes d derivations doc in
    record { answer = t.0; answers = checks.IsAccepted projections machines derivations h found t.1 }

document_answer : (t : DocumentTask) (bytes : List ℕ) (d : Document_data) → SpellsDocument bytes d → Some_for t bytes d
document_answer (on_document.Check options) bytes d h = checked options.bound options.derivations bytes d h (prepared options.bound bytes d h (first_fault d.protocol) refl)
document_answer on_document.Verify bytes d h = verified bytes d (tested d (prepared 1 bytes d h (first_fault d.protocol) refl))
document_answer on_document.Migrate bytes d h = migrated bytes d h (tested d (prepared 1 bytes d h (first_fault d.protocol) refl))
document_answer (on_document.Improve options) bytes d h =
    let a = some_improving options.role options.bound options.swaps bytes d h in
    record { answer = a.0; answers = a.1 }
document_answer (on_document.Explain bound) bytes d h =
    let a = some_explaining bound bytes d h in
    record { answer = a.0; answers = a.1 }
document_answer (on_document.Draw role) bytes d h =
    let a = some_drawing role bytes d h in
    record { answer = a.0; answers = a.1 }
document_answer (on_document.DrawRun options) bytes d h =
    let a = some_run_picture options bytes d h (prepared options.bound bytes d h (first_fault d.protocol) refl) in
    record { answer = a.0; answers = a.1 }
document_answer on_document.Show bytes d h = shown bytes d h
document_answer on_document.Project bytes d h = some_tables bytes d (first_fault d.protocol) refl
document_answer (on_document.Run options workers) bytes d h =
    let r = some_with workers options bytes d h (prepared options.bound bytes d h (first_fault d.protocol) refl) in
    record { answer = r.0; answers = r.1 }

record Some_text (t : DocumentTask) (bytes : List ℕ) : Type 0 where
  answer : Answer_data
  answers : AnswersText t bytes answer

of_text : (t : DocumentTask) (bytes : List ℕ) → Some_text t bytes
of_text t bytes = elim (leb_tells (length bytes) MOST_BYTES) [
  | inl short ↦ elim (spelt_or_faulty bytes) [
    | inl d ↦ let a = document_answer t bytes d.0 d.1 in record { answer = a.answer; answers = IsDocument short.1 d.0 d.1 a.answers }
    | inr f ↦ record { answer = fault_answer_of t bytes f.0 f.1; answers = IsFaulty short.1 f.0 f.1 f.2 refl }
  ]
  | inr long ↦ record { answer = too_large (codes "text"); answers = IsTooLong long.1 refl }
]

some_data : (kind : Demo) (ring : Option ℕ) (bytes : List ℕ) → (a : Answer_data) × AnswersData kind ring bytes a
some_data kind ring bytes = elim (leb_tells (length bytes) MOST_BYTES) [
  | inl short ↦ let a = some_demo kind ring bytes in (a.0, DataIsShort short.1 a.1)
  | inr long ↦ (too_large (codes "text"), DataIsTooLong long.1 refl)
]

of_task : (t : Task) (bytes : List ℕ) → (a : Answer_data) × AnswersTask t bytes a
of_task (task.OnDocument t) bytes = let a = of_text t bytes in (a.answer, a.answers)
of_task (task.OnData demo) bytes = some_data demo.kind demo.ring bytes
of_task (task.Gen number) bytes =
    let c = of_text (on_document.Check (record { bound = DEFAULT_BOUND; derivations = false })) (pipeline_text (pipeline_of number)) in
    (record { text = pipeline_summary (pipeline_of number) ++ c.answer.text; verdict = c.answer.verdict }, record { checked = c.answer; checks = c.answers; joined = refl })

pub some_answer : (words : List (List ℕ)) (bytes : List ℕ) → (a : Answer_data) × Answers words bytes a
some_answer words bytes = let m = words_mean_something words in of_meaning m.0 m.1
  where
    of_meaning : (o : Option Task) → IsMeaning words o → (a : Answer_data) × Answers words bytes a
    of_meaning None none = (usage, SpellsNothing none refl)
    of_meaning (Some t) s = let a = of_task t bytes in (a.0, CarriesOut t s a.1)
