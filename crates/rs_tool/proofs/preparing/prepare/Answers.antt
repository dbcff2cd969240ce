use Rattle.std.proofs.Common.{◌≡◌, ◌≤◌, ℕ, List, length, arith, ap, refl, sym, subst, ◌∙◌, Err}
use Rattle.std.specs.Prelude.{IfOk}
use Rattle.rs_runs.specs.Ready.{Warrants}
use Rattle.rs_runs.specs.declared.answers.AnswerWithSession.{AnswerWithSession}
use Rattle.rs_runs.proofs.Leading.{made_leads}
use Rattle.rs_model.specs.declared.limits.TheConstants.{MOST_BYTES}
use Rattle.rs_tool.specs.Answers.{AnswersPipeline}
use Rattle.rs_tool.specs.Sessions.{Gives}
use Rattle.rs_tool.specs.Tasks.{ReadsTheInput}
use Rattle.rs_tool.specs.declared.statuses.CallStop.TheVariants as stop
use Rattle.rs_tool.proofs.Answering.{if_told}
use Rattle.rs_tool.proofs.MadeReady.{demo_leads, is_ready, leads, pipeline_alone, prepares_reading, prepares_unread}
use Rattle.rs_words.specs.Tasks.{workers_of}
use Rattle.rs_words.specs.declared.tasks.Task.{Task}
use Rattle.rs_words.specs.declared.tasks.Task.TheVariants as task
use Rattle.rs_tool.proofs.preparing.prepare.Goals as goal

pub returns-in-Err : goal.returns-in-Err
returns-in-Err g c = λ words spells. record {
  ready = tt;
  leads = tt;
  end = λ reads. c.in-Err.ensures.end;
  unread = λ none. absurd (none (c.args.task, spells, subst ReadsTheInput (sym c.in-OnDocument.is) tt));
  read_fault = λ e. let same : c.in-Err.stop ≡ stop.ReadFault = cc (e) in c.in-Err.ensures.read_fault (ap (λ x. Err x) same);
}

pub returns-in-Ok-Some : goal.returns-in-Ok-Some
returns-in-Ok-Some g c = λ words spells.
    let t = c.args.task in
    let bytes = c.as_slice.result.now in
    let due = subst (λ (x : Task). IfOk c.on_text.result (λ p. Warrants (workers_of x) p (Gives x bytes))) (sym c.in-OnDocument.is) c.on_text.ensures in
    prepares_reading words t _ spells c.made_or_stop.result c.on_text.result
    (subst ReadsTheInput (sym c.in-OnDocument.is) tt) c.made_or_stop.ensures.made c.made_or_stop.ensures.read_fault (is_ready (workers_of t) (Gives t bytes) c.on_text.result due)
    (if_told (g.S.Source.left c.args.source.now) _ _ (λ own is. leads (workers_of t) (Gives t bytes) (Gives t own) c.on_text.result
    (λ a h. subst (λ (b : List ℕ). Gives t b a) (c.as_slice.ensures.value ∙ (rw c.in-Ok-Some.field-0-is at is)) h) due) c.in-Ok-Some.ensures.input)
    c.in-Ok-Some.ensures.end

pub returns-in-Ok-None : goal.returns-in-Ok-None
returns-in-Ok-None g c = λ words spells.
    let t = c.args.task in
    let reads = subst ReadsTheInput (sym c.in-OnDocument.is) tt in
    prepares_reading words t _ spells c.made_or_stop-in-Ok-None.result c.on_long_input.result
    reads c.made_or_stop-in-Ok-None.ensures.made c.made_or_stop-in-Ok-None.ensures.read_fault (c.on_long_input.ensures.ready (workers_of t))
    (if_told (g.S.Source.left c.args.source.now) _ _ (λ own is. leads (workers_of t) (Gives t own) (Gives t own) c.on_long_input.result (λ a h. h)
    (c.on_long_input.ensures.leads t own reads (rw c.in-Ok-None.field-0-is at is)))
    c.in-Ok-None.ensures.input)
    c.in-Ok-None.ensures.end

pub returns-in-Ok-Some-read_input : goal.returns-in-Ok-Some-read_input
returns-in-Ok-Some-read_input g c = λ words spells.
    let t = c.args.task in
    let bytes = c.as_slice-in-Ok-Some-read_input.result.now in
    let told = rw c.in-Ok-Some-read_input.field-0-is at c.in-Ok-Some-read_input.ensures.short in
    let size = c.as_slice-in-Ok-Some-read_input.ensures.len in
    let short : length bytes ≤ MOST_BYTES = omega (arith, told, size) in
    let given = demo_leads c.in-OnData.demo bytes c.ready_demo.result short c.ready_demo.ensures.alone (c.ready_demo.ensures.crew short) in
    let due = subst (λ (x : Task). IfOk c.ready_demo.result (λ p. Warrants (workers_of x) p (Gives x bytes))) (sym c.in-OnData.is) given in
    prepares_reading words t _ spells c.made_or_stop-in-Ok-Some-read_input.result c.ready_demo.result (subst ReadsTheInput (sym c.in-OnData.is) tt)
    c.made_or_stop-in-Ok-Some-read_input.ensures.made c.made_or_stop-in-Ok-Some-read_input.ensures.read_fault
    (is_ready (workers_of t) (Gives t bytes) c.ready_demo.result due)
    (if_told (g.S.Source.left c.args.source.now) _ _ (λ own is. leads (workers_of t) (Gives t bytes) (Gives t own) c.ready_demo.result
    (λ a h. subst (λ (b : List ℕ). Gives t b a) (c.as_slice-in-Ok-Some-read_input.ensures.value ∙ (rw c.in-Ok-Some-read_input.field-0-is at is)) h) due) c.in-Ok-Some-read_input.ensures.input)
    c.in-Ok-Some-read_input.ensures.end

pub returns-in-Ok-None-read_input : goal.returns-in-Ok-None-read_input
returns-in-Ok-None-read_input g c = λ words spells.
    let t = c.args.task in
    let reads = subst ReadsTheInput (sym c.in-OnData.is) tt in
    prepares_reading words t _ spells c.made_or_stop-in-Ok-None-read_input.result c.on_long_input-in-Ok-None-read_input.result reads
    c.made_or_stop-in-Ok-None-read_input.ensures.made c.made_or_stop-in-Ok-None-read_input.ensures.read_fault
    (c.on_long_input-in-Ok-None-read_input.ensures.ready (workers_of t))
    (if_told (g.S.Source.left c.args.source.now) _ _ (λ own is. leads (workers_of t) (Gives t own) (Gives t own) c.on_long_input-in-Ok-None-read_input.result (λ a h. h)
    (c.on_long_input-in-Ok-None-read_input.ensures.leads t own reads (rw c.in-Ok-None-read_input.field-0-is at is))) c.in-Ok-None-read_input.ensures.input)
    c.in-Ok-None-read_input.ensures.end

pub returns-in-Gen : goal.returns-in-Gen
returns-in-Gen g c = λ words spells.
    let t = c.args.task in
    let given = made_leads (workers_of (task.Gen c.in-Gen.number)) (AnswersPipeline c.in-Gen.number) (λ a. (bytes : List ℕ) → Gives (task.Gen c.in-Gen.number) bytes a)
    c.answer_to_gen.result c.answered.result c.answered.ensures
    c.answer_to_gen.ensures (λ a h. pipeline_alone c.in-Gen.number a h) in
    let P : Task → AnswerWithSession → Type 0 = λ x a. (bytes : List ℕ) → Gives x bytes a in
    let due = subst (λ (x : Task). IfOk c.answered.result (λ p. Warrants (workers_of x) p (P x))) (sym c.in-Gen.is) given in
    prepares_unread words t _ spells refl c.made_or_stop-in-Gen.result c.answered.result
    (subst (λ (x : Task). ReadsTheInput x → ⊥) (sym c.in-Gen.is) (λ h. h))
    c.made_or_stop-in-Gen.ensures.made c.made_or_stop-in-Gen.ensures.read_fault (is_ready (workers_of t) (P t) c.answered.result due)
    (leads (workers_of t) (P t) (P t) c.answered.result (λ a h. h) due)
