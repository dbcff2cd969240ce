-- Words and bytes have one answer.
use Rattle.std.proofs.Common.{◌≡◌, ◌⊎◌, inl, inr, ℕ, ◌≤◌, ◌<◌, Option, arith, Bool, true, false, List, ◌++◌, Some, length, refl, sym, ap, subst, ◌∙◌}
use Rattle.rs_model.specs.declared.limits.TheConstants.{MOST_BYTES}
use Rattle.rs_model.specs.declared.demos.Demo.{Demo}
use Rattle.rs_global.proofs.Canonical.{canonical_text_is_one}
use Rattle.rs_global.specs.Canonical.{IsTextShaped}
use Rattle.rs_derive.specs.Data.{Derivation_data}
use Rattle.rs_tool.specs.Pipelines.{pipeline_text, pipeline_of, pipeline_summary}
use Rattle.rs_model.specs.declared.limits.TheConstants.{DEFAULT_BOUND}
use Rattle.rs_words.proofs.Exact.{words_spell_one_task}
use Rattle.rs_wellformed.proofs.Faults.{no_fault}
use Rattle.rs_answers.specs.declared.verdicts.Verdict.TheVariants.{Fine, Stopped}
use Rattle.rs_runs.proofs.OneDemo.{one_demo}
use Rattle.rs_answers.proofs.OneImproved.{one_improving}
use Rattle.rs_reasons.proofs.OneExplanation.{one_explaining}
use Rattle.rs_draw.proofs.OneDrawing.{one_drawing}
use Rattle.rs_run_pictures.proofs.OneRunPicture.{one_run_picture}
use Rattle.rs_words.specs.declared.tasks.DocumentTask.{DocumentTask}
use Rattle.rs_words.specs.declared.tasks.DocumentTask.TheVariants as on_document
use Rattle.rs_words.specs.declared.tasks.Task.{Task}
use Rattle.rs_words.specs.declared.tasks.Task.TheVariants as task
use Rattle.rs_tool.specs.Answers.{Answers, SpellsNothing, CarriesOut, AnswersText, IsTooLong, IsFaulty, IsDocument, AnswersDocument, AnswersPipeline, AnswersTask, AnswersData, DataIsTooLong, fault_answer_of}
use Rattle.rs_tool.specs.Answers.{DataIsShort}
use Rattle.rs_answers.specs.Checks as checks
use Rattle.rs_answers.specs.Checks.{Checks, TellsAccepted, with_derivations}
use Rattle.rs_documents.specs.Data.{Document_data}
use Rattle.rs_answers.specs.Data.{Answer_data}
use Rattle.rs_documents.specs.Documents.{SpellsDocument}
use Rattle.rs_answers.specs.RefusalTexts.{wf_answer, proj_answer}
use Rattle.rs_answers.specs.Refusals.{refusal_answer}
use Rattle.rs_runs.specs.Pools.{RunsWith}
use Rattle.rs_model.specs.declared.runs.RunOptions.{RunOptions}
use Rattle.rs_runs.proofs.PoolAnswers.{one_by_one, one_by_workers}
use Rattle.rs_model.specs.declared.runs.Workers.{Workers}
use Rattle.rs_model.specs.declared.runs.Workers.TheVariants.{One, Several}
use Rattle.rs_documents.specs.Canonical.{AreShown, derivations_text}
use Rattle.rs_documents.proofs.OneCanonical.{one_text_each}
use Rattle.rs_answers.specs.Shown.{Shows}
use Rattle.rs_answers.specs.Migrates as migrating
use Rattle.rs_answers.specs.Migrates.{Migrates}
use Rattle.rs_answers.specs.Verifying as verifying
use Rattle.rs_answers.specs.Verifying.{Verifies}
use Rattle.rs_answers.specs.Tables as tables
use Rattle.rs_answers.specs.Tables.{Projects, tables_text}
use Rattle.rs_tool.specs.Tasks.{AskForWorkers}
use Rattle.rs_words.specs.Tasks.{workers_of}
use Rattle.rs_documents.proofs.CanShow.{role_names}
use Rattle.rs_documents.proofs.OneDocument.{no_fault as no_text_fault, one_document, one_fault}
use Rattle.rs_answers.proofs.OneReason.{one_unprojectable, one_projection_list, not_unprojectable, one_session_derived, one_refusal, not_refused, one_unverified, not_unverified}

short_and_long : (bytes : List ℕ) → length bytes ≤ MOST_BYTES → MOST_BYTES < length bytes → ⊥
short_and_long bytes s l = absurd (omega arith)

one_tables : (d : Document_data) (a b : Answer_data) → Projects d a → Projects d b → a ≡ b
one_tables d a b (tables.IsIllFormed f e x) (tables.IsIllFormed g h y) = let same : Some f ≡ Some g = sym e ∙ h in let is : f ≡ g = cc in x ∙ ap (wf_answer d.names) is ∙ sym y
one_tables d a b (tables.IsIllFormed f e x) (tables.HasNoProjection none s g h y) = absurd cc
one_tables d a b (tables.IsIllFormed f e x) (tables.HasTables ps h y) = let none = h.well_formed in absurd cc
one_tables d a b (tables.HasNoProjection none r f e x) (tables.IsIllFormed g h y) = absurd cc
one_tables d a b (tables.HasNoProjection none r f e x) (tables.HasNoProjection other s g h y) =
    x ∙ ap (proj_answer d.names) (one_unprojectable d.protocol r s f g (no_fault d.protocol none) e h) ∙ sym y
one_tables d a b (tables.HasNoProjection none r f e x) (tables.HasTables ps h y) = absurd (not_unprojectable d ps r f h e)
one_tables d a b (tables.HasTables ps h x) (tables.IsIllFormed g e y) = let none = h.well_formed in absurd cc
one_tables d a b (tables.HasTables ps h x) (tables.HasNoProjection none s g e y) = absurd (not_unprojectable d ps s g h e)
one_tables d a b (tables.HasTables ps h x) (tables.HasTables qs k y) = x ∙ ap (λ z. record { text = tables_text d.names z; verdict = Fine }) (one_projection_list d ps qs h k) ∙ sym y

one_shown : (d : Document_data) (a b : Answer_data) → IsTextShaped d.protocol → AreShown d.names d.machines → Shows d a → Shows d b → a ≡ b
one_shown d a b shaped there h k =
    let front = canonical_text_is_one d.names d.protocol h.text.front k.text.front shaped h.text.protocol k.text.protocol in
    let back = one_text_each d.names d.machines h.text.back k.text.back there h.text.machines k.text.machines in
    let last = derivations_text d.names d.derivations in
    let text : a.text ≡ b.text = h.text.whole ∙ ap (λ z. z ++ (h.text.back ++ last)) front ∙ ap (λ z. k.text.front ++ (z ++ last)) back ∙ sym k.text.whole in
    ap (λ z. record { text = z; verdict = a.verdict }) text ∙ ap (λ z. record { text = b.text; verdict = z }) (h.fine ∙ sym k.fine)

one_show : (bytes : List ℕ) (d : Document_data) (a b : Answer_data) → SpellsDocument bytes d → Shows d a → Shows d b → a ≡ b
one_show bytes d a b doc h k = let r = role_names bytes d doc in one_shown d a b r.3 r.2 h k

one_telling : (asked : Bool) (bytes : List ℕ) (d : Document_data) (ds : List Derivation_data) (a b : Answer_data) → SpellsDocument bytes d → TellsAccepted asked d ds a → TellsAccepted asked d ds b
    → a ≡ b
one_telling false bytes d ds a b doc x y = x ∙ sym y
one_telling true bytes d ds a b doc x y = let r = role_names bytes d doc in one_shown (with_derivations d ds) a b r.3 r.2 x y

one_check : (bound : ℕ) (asked : Bool) (bytes : List ℕ) (d : Document_data) (a b : Answer_data) → SpellsDocument bytes d → Checks bound asked d a → Checks bound asked d b → a ≡ b
one_check bound asked bytes d a b doc (checks.IsRefused r h x) (checks.IsRefused s k y) = x ∙ ap (refusal_answer d.names) (one_refusal bound d r s h k) ∙ sym y
one_check bound asked bytes d a b doc (checks.IsRefused r h x) (checks.IsAccepted ps ms ds k f y) = absurd (not_refused bound d ps ms ds r k f h)
one_check bound asked bytes d a b doc (checks.IsAccepted ps ms ds h f x) (checks.IsRefused s k y) = absurd (not_refused bound d ps ms ds s h f k)
one_check bound asked bytes d a b doc (checks.IsAccepted ps ms ds h f x) (checks.IsAccepted qs ns es k g y) =
    let P : List Derivation_data → Type 0 = λ z. TellsAccepted asked d z a in
    one_telling asked bytes d es a b doc (subst P (one_session_derived bound d ps qs ms ns ds es h k f g) x) y

one_verifying : (d : Document_data) (a b : Answer_data) → Verifies d a → Verifies d b → a ≡ b
one_verifying d a b (verifying.IsRefused r h x) (verifying.IsRefused s k y) = x ∙ ap (refusal_answer d.names) (one_unverified d r s h k) ∙ sym y
one_verifying d a b (verifying.IsRefused r h x) (verifying.IsReported ps ms k y) = absurd (not_unverified d ps ms r k h)
one_verifying d a b (verifying.IsReported ps ms h x) (verifying.IsRefused s k y) = absurd (not_unverified d ps ms s h k)
one_verifying d a b (verifying.IsReported ps ms h x) (verifying.IsReported qs ns k y) = x ∙ sym y

one_migrating : (bytes : List ℕ) (d : Document_data) (a b : Answer_data) → SpellsDocument bytes d → Migrates d a → Migrates d b → a ≡ b
one_migrating bytes d a b doc (migrating.IsRefused r h x) (migrating.IsRefused s k y) = x ∙ ap (refusal_answer d.names) (one_unverified d r s h k) ∙ sym y
one_migrating bytes d a b doc (migrating.IsRefused r h x) (migrating.IsMigrated ps ms k y) = absurd (not_unverified d ps ms r k h)
one_migrating bytes d a b doc (migrating.IsMigrated ps ms h x) (migrating.IsRefused s k y) = absurd (not_unverified d ps ms s h k)
one_migrating bytes d a b doc (migrating.IsMigrated ps ms h x) (migrating.IsMigrated qs ns k y) = one_show bytes d a b doc x y

-- two answers are one, or these workers are several, and both tell that a run was stopped
abbrev AreOne : Workers → Answer_data → Answer_data → Type 0
AreOne workers a b = (a ≡ b) ⊎ ((crew : ℕ) × (workers ≡ Several crew) × (a.verdict ≡ Stopped) × (b.verdict ≡ Stopped))

alone_is_one : (workers : Workers) (a b : Answer_data) → workers ≡ One → AreOne workers a b → a ≡ b
alone_is_one workers a b one (inl same) = same
alone_is_one workers a b one (inr stops) = let no : One ≡ Several stops.0 = sym one ∙ stops.1 in absurd cc

one_with : (options : RunOptions) (workers : Workers) (bytes : List ℕ) (d : Document_data) (a b : Answer_data) → SpellsDocument bytes d → RunsWith workers options d a → RunsWith workers options d b
    → AreOne workers a b
one_with options One bytes d a b doc h k = inl (one_by_one options bytes d a b doc h k)
one_with options (Several n) bytes d a b doc h k = elim (one_by_workers options d a b h k) [
  | inl same ↦ inl same
  | inr stops ↦ inr (n, refl, stops.0, stops.1)
]

-- who makes the turns of a task on a document
abbrev workers_on : DocumentTask → Workers
workers_on t = workers_of (task.OnDocument t)

one_of_document : (t : DocumentTask) (bytes : List ℕ) (d : Document_data) (a b : Answer_data) → SpellsDocument bytes d → AnswersDocument t bytes d a → AnswersDocument t bytes d b → AreOne (workers_on t) a b
one_of_document (on_document.Check options) bytes d a b doc h k = inl (one_check options.bound options.derivations bytes d a b doc h k)
one_of_document on_document.Verify bytes d a b doc h k = inl (one_verifying d a b h k)
one_of_document on_document.Migrate bytes d a b doc h k = inl (one_migrating bytes d a b doc h k)
one_of_document (on_document.Run options workers) bytes d a b doc h k = one_with options workers bytes d a b doc h k
one_of_document (on_document.Improve options) bytes d a b doc h k = inl (one_improving options.role options.bound options.swaps bytes d a b doc h k)
one_of_document (on_document.Explain bound) bytes d a b doc h k = inl (one_explaining bound bytes d a b doc h k)
one_of_document (on_document.Draw role) bytes d a b doc h k = inl (one_drawing role bytes d a b doc h k)
one_of_document (on_document.DrawRun options) bytes d a b doc h k = inl (one_run_picture options bytes d a b doc h k)
one_of_document on_document.Show bytes d a b doc h k = inl (one_show bytes d a b doc h k)
one_of_document on_document.Project bytes d a b doc h k = inl (one_tables d a b h k)

one_text : (t : DocumentTask) (bytes : List ℕ) (a b : Answer_data) → AnswersText t bytes a → AnswersText t bytes b → AreOne (workers_on t) a b
one_text t bytes a b (IsTooLong l x) (IsTooLong m y) = inl (x ∙ sym y)
one_text t bytes a b (IsTooLong l x) (IsFaulty s k at h y) = absurd (short_and_long bytes s l)
one_text t bytes a b (IsTooLong l x) (IsDocument s d h y) = absurd (short_and_long bytes s l)
one_text t bytes a b (IsFaulty s k at h x) (IsTooLong m y) = absurd (short_and_long bytes s m)
one_text t bytes a b (IsFaulty s k at h x) (IsFaulty r j place g y) =
    let same = one_fault bytes k j at place h g in
    inl (x ∙ ap (λ z. fault_answer_of t bytes z at) same.0 ∙ ap (λ z. fault_answer_of t bytes j z) same.1 ∙ sym y)
one_text t bytes a b (IsFaulty s k at h x) (IsDocument r d g y) = absurd (no_text_fault bytes d k at g h)
one_text t bytes a b (IsDocument s d h x) (IsTooLong m y) = absurd (short_and_long bytes s m)
one_text t bytes a b (IsDocument s d h x) (IsFaulty r k at g y) = absurd (no_text_fault bytes d k at h g)
one_text t bytes a b (IsDocument s d h x) (IsDocument r e g y) =
    let is = one_document bytes d e h g in
    one_of_document t bytes e a b g (subst (λ (z : Document_data). AnswersDocument t bytes z a) is x) y

one_pipeline : (number : ℕ) (a b : Answer_data) → AnswersPipeline number a → AnswersPipeline number b → a ≡ b
one_pipeline number a b h k =
    let one = one_text (on_document.Check (record { bound = DEFAULT_BOUND; derivations = false })) (pipeline_text (pipeline_of number)) h.checked k.checked h.checks k.checks in
    h.joined ∙ ap (λ (z : Answer_data). record { text = pipeline_summary (pipeline_of number) ++ z.text; verdict = z.verdict }) (alone_is_one One h.checked k.checked refl one) ∙ sym k.joined

one_data : (kind : Demo) (ring : Option ℕ) (bytes : List ℕ) (a b : Answer_data) → AnswersData kind ring bytes a → AnswersData kind ring bytes b → a ≡ b
one_data kind ring bytes a b (DataIsTooLong l x) (DataIsTooLong m y) = x ∙ sym y
one_data kind ring bytes a b (DataIsTooLong l x) (DataIsShort s k) = absurd (short_and_long bytes s l)
one_data kind ring bytes a b (DataIsShort s h) (DataIsTooLong m y) = absurd (short_and_long bytes s m)
one_data kind ring bytes a b (DataIsShort s h) (DataIsShort r k) = one_demo kind ring bytes a b h k

-- what is carried out is one thing
one_task_answer : (t : Task) (bytes : List ℕ) (a b : Answer_data) → AnswersTask t bytes a → AnswersTask t bytes b → AreOne (workers_of t) a b
one_task_answer (task.OnDocument t) bytes a b h k = one_text t bytes a b h k
one_task_answer (task.OnData demo) bytes a b h k = inl (one_data demo.kind demo.ring bytes a b h k)
one_task_answer (task.Gen number) bytes a b h k = inl (one_pipeline number a b h k)

-- two answers to words are one, or the words ask for workers, and both tell of a stop
pub alike : (words : List (List ℕ)) (bytes : List ℕ) (a b : Answer_data) → Answers words bytes a → Answers words bytes b
    → (a ≡ b) ⊎ (AskForWorkers words × (a.verdict ≡ Stopped) × (b.verdict ≡ Stopped))
alike words bytes a b (SpellsNothing n x) (SpellsNothing m y) = inl (x ∙ sym y)
alike words bytes a b (SpellsNothing n x) (CarriesOut u s k) = absurd (n u s)
alike words bytes a b (CarriesOut t s h) (SpellsNothing m y) = absurd (m t s)
alike words bytes a b (CarriesOut t s h) (CarriesOut u r k) = elim (one_task_answer u bytes a b (subst (λ (x : Task). AnswersTask x bytes a) (words_spell_one_task words t u s r) h) k) [
  | inl same ↦ inl same
  | inr stops ↦ inr ((u, stops.0, r, stops.1), stops.2, stops.3)
]

pub one_answer : (words : List (List ℕ)) (bytes : List ℕ) (a b : Answer_data) → (AskForWorkers words → ⊥) → Answers words bytes a → Answers words bytes b → a ≡ b
one_answer words bytes a b alone h k = elim (alike words bytes a b h k) [
  | inl same ↦ same
  | inr stops ↦ absurd (alone stops.0)
]

pub one_or_stopped : (words : List (List ℕ)) (bytes : List ℕ) (a b : Answer_data) → Answers words bytes a → Answers words bytes b → (a ≡ b) ⊎ ((a.verdict ≡ Stopped) × (b.verdict ≡ Stopped))
one_or_stopped words bytes a b h k = elim (alike words bytes a b h k) [
  | inl same ↦ inl same
  | inr stops ↦ inr (stops.1, stops.2)
]
