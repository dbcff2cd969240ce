use Rattle.std.proofs.Common.{◌≡◌, ◌⊎◌, false, ◌∙◌, ap, subst}
use Rattle.std.specs.Prelude.{IfOk}
use Rattle.rs_documents.specs.Data.{Document_data}
use Rattle.rs_model.specs.Data.{Names_data}
use Rattle.rs_answers.specs.Checks.{Checks}
use Rattle.rs_answers.specs.Refusals.{HasNoDerivations}
use Rattle.rs_answers.specs.declared.refusals.Refusal.TheVariants as refusal
use Rattle.rs_answers.proofs.Answering.{refused}
use Rattle.rs_answers.proofs.Figuring.{told_by_figures}
use Rattle.rs_answers.proofs.checks.check.Goals as goal

pub returns-in-Ok : goal.returns-in-Ok
returns-in-Ok c =
    told_by_figures c.args.bound c.args.document.now c.as_slice.result.now c.in-Ok.figures.items c.as_slice-in-Ok.result.now c.report_by_figures.result c.in-Ok.ensures.ok
    (c.as_slice.ensures.value ∙ ap (λ (n : Names_data). n.roles) c.names.view_is ∙ ap (λ (d : Document_data). d.names.roles) c.document.view_is) c.as_slice-in-Ok.ensures.value
    c.report_by_figures.ensures

pub returns-in-Err : goal.returns-in-Err
returns-in-Err c =
    subst (λ (d : Document_data). (c.in-Err.refusal ≡ refusal.NoMemory) ⊎ HasNoDerivations c.args.bound d c.in-Err.refusal → IfOk c.refusal_answer.result (Checks c.args.bound false d))
    c.document.view_is
    (λ why. refused c.args.bound false _ c.in-Err.refusal c.refusal_answer.result why c.refusal_answer.ensures.answer c.refusal_answer.ensures.memory) c.in-Err.ensures.err
