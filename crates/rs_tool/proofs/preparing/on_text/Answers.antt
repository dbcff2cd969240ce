use Rattle.std.proofs.Common.{Bool, sym, subst}
use Rattle.std.specs.Prelude.{IfOk}
use Rattle.std.proofs.lemmas.Result.{IfOk-weaker}
use Rattle.rs_answers.specs.Checks.{Checks}
use Rattle.rs_runs.specs.Ready.{Warrants}
use Rattle.rs_runs.proofs.Leading.{made_leads}
use Rattle.rs_documents.proofs.CanShow.{can_show}
use Rattle.rs_tool.specs.Sessions.{Gives}
use Rattle.rs_tool.proofs.MadeReady.{both_ok, document_leads, fault_alone, of_fault, run_gives}
use Rattle.rs_words.specs.Tasks.{workers_of}
use Rattle.rs_words.specs.declared.tasks.DocumentTask.{DocumentTask}
use Rattle.rs_words.specs.declared.tasks.DocumentTask.TheVariants as on_document
use Rattle.rs_words.specs.declared.tasks.Task.TheVariants.{OnDocument}
use Rattle.rs_tool.proofs.preparing.on_text.Goals as goal

pub returns-in-Err : goal.returns-in-Err
returns-in-Err c =
    made_leads (workers_of (OnDocument c.args.task)) _ (Gives (OnDocument c.args.task) c.args.bytes.now) c.answer_of_task_to_fault.result c.answered.result c.answered.ensures
    (both_ok c.answer_of_task_to_fault.result _ _ _ (λ a p q. (p, q))
    (of_fault c.args.task c.args.bytes.now c.in-Err.fault c.answer_of_task_to_fault.result c.requires.short c.in-Err.ensures.err c.answer_of_task_to_fault.ensures.answer c.answer_of_task_to_fault.ensures.memory)
    c.answer_of_task_to_fault.ensures.answer)
    (λ a h. fault_alone c.args.task c.args.bytes.now c.in-Err.fault a h)

pub check_with_derivations-requires-clause-shown : goal.check_with_derivations-requires-clause-shown
check_with_derivations-requires-clause-shown c = can_show c.args.bytes.now c.in-Ok.document c.in-Ok.ensures.ok c.in-Ok.ensures.ready.sound

pub show-requires : goal.show-requires
show-requires c = can_show c.args.bytes.now c.in-Ok.document c.in-Ok.ensures.ok c.in-Ok.ensures.ready.sound

pub returns-then-options : goal.returns-then-options
returns-then-options c =
    document_leads c.args.task (on_document.Check c.in-Check.options)
    c.args.bytes.now c.in-Ok.document c.check_with_derivations.result c.answered-then-options.result c.in-Check.is c.requires.short c.in-Ok.ensures.ok (λ h. h)
    c.answered-then-options.ensures (subst (λ (b : Bool). IfOk c.check_with_derivations.result (Checks c.in-Check.options.bound b c.in-Ok.document)) (sym c.if-options.true)
    c.check_with_derivations.ensures)

pub returns-else-options : goal.returns-else-options
returns-else-options c =
    document_leads c.args.task (on_document.Check c.in-Check.options) c.args.bytes.now c.in-Ok.document c.check.result c.answered-else-options.result c.in-Check.is c.requires.short c.in-Ok.ensures.ok
    (λ h. h)
    c.answered-else-options.ensures (subst (λ (b : Bool). IfOk c.check.result (Checks c.in-Check.options.bound b c.in-Ok.document)) (sym c.if-options.false) c.check.ensures)

pub migrate-requires-clause-shown : goal.migrate-requires-clause-shown
migrate-requires-clause-shown c = can_show c.args.bytes.now c.in-Ok.document c.in-Ok.ensures.ok c.in-Ok.ensures.ready.sound

pub returns-in-Migrate : goal.returns-in-Migrate
returns-in-Migrate c =
    document_leads c.args.task on_document.Migrate c.args.bytes.now c.in-Ok.document c.migrate.result c.answered-in-Migrate.result c.in-Migrate.is c.requires.short c.in-Ok.ensures.ok (λ h. h)
    c.answered-in-Migrate.ensures c.migrate.ensures

pub returns-in-Verify : goal.returns-in-Verify
returns-in-Verify c =
    document_leads c.args.task on_document.Verify c.args.bytes.now c.in-Ok.document c.verify.result c.answered-in-Verify.result c.in-Verify.is c.requires.short c.in-Ok.ensures.ok (λ h. h)
    c.answered-in-Verify.ensures c.verify.ensures

pub returns-in-Show : goal.returns-in-Show
returns-in-Show c =
    document_leads c.args.task on_document.Show c.args.bytes.now c.in-Ok.document c.show.result c.answered-in-Show.result c.in-Show.is c.requires.short c.in-Ok.ensures.ok (λ h. h)
    c.answered-in-Show.ensures c.show.ensures

pub returns-in-Project : goal.returns-in-Project
returns-in-Project c =
    document_leads c.args.task on_document.Project c.args.bytes.now c.in-Ok.document c.project_all.result c.answered-in-Project.result c.in-Project.is c.requires.short c.in-Ok.ensures.ok (λ h. h)
    c.answered-in-Project.ensures
    c.project_all.ensures

pub returns-in-Run : goal.returns-in-Run
returns-in-Run c =
    subst (λ (t : DocumentTask). IfOk c.ready_run.result (λ p. Warrants (workers_of (OnDocument t)) p (Gives (OnDocument t) c.args.bytes.now))) (sym c.in-Run.is)
    (IfOk-weaker c.ready_run.result _ _
    (λ p l. record { ready = l.ready; given = λ g comes. run_gives c.in-Run.options c.in-Run.workers c.args.bytes.now c.in-Ok.document g c.requires.short c.in-Ok.ensures.ok (l.given g comes) })
    c.ready_run.ensures)

pub improve_role-requires-clause-shown : goal.improve_role-requires-clause-shown
improve_role-requires-clause-shown c = can_show c.args.bytes.now c.in-Ok.document c.in-Ok.ensures.ok c.in-Ok.ensures.ready.sound

pub returns-in-Improve : goal.returns-in-Improve
returns-in-Improve c =
    document_leads c.args.task (on_document.Improve c.in-Improve.options) c.args.bytes.now c.in-Ok.document c.improve_role.result c.answered-in-Improve.result c.in-Improve.is c.requires.short c.in-Ok.ensures.ok
    (λ h. h) c.answered-in-Improve.ensures c.improve_role.ensures

pub draw-requires-clause-shown : goal.draw-requires-clause-shown
draw-requires-clause-shown c = can_show c.args.bytes.now c.in-Ok.document c.in-Ok.ensures.ok c.in-Ok.ensures.ready.sound

pub returns-in-Draw : goal.returns-in-Draw
returns-in-Draw c =
    document_leads c.args.task (on_document.Draw c.in-Draw.role) c.args.bytes.now c.in-Ok.document c.draw.result c.answered-in-Draw.result c.in-Draw.is c.requires.short c.in-Ok.ensures.ok (λ h. h)
    c.answered-in-Draw.ensures c.draw.ensures

pub returns-in-Explain : goal.returns-in-Explain
returns-in-Explain c =
    document_leads c.args.task (on_document.Explain c.in-Explain.bound) c.args.bytes.now c.in-Ok.document c.explain.result c.answered-in-Explain.result c.in-Explain.is c.requires.short c.in-Ok.ensures.ok (λ h. h)
    c.answered-in-Explain.ensures c.explain.ensures

pub returns-in-DrawRun : goal.returns-in-DrawRun
returns-in-DrawRun c =
    document_leads c.args.task (on_document.DrawRun c.in-DrawRun.options) c.args.bytes.now c.in-Ok.document c.draw_run.result c.answered-in-DrawRun.result c.in-DrawRun.is c.requires.short c.in-Ok.ensures.ok (λ h. h)
    c.answered-in-DrawRun.ensures c.draw_run.ensures
