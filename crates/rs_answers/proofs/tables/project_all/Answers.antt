use Rattle.std.proofs.Common.{subst}
use Rattle.std.specs.Prelude.{IfOk}
use Rattle.rs_documents.specs.Data.{Document_data}
use Rattle.rs_answers.specs.Tables.{Projects}
use Rattle.rs_answers.specs.declared.verdicts.Verdict.TheVariants.{Fine}
use Rattle.rs_answers.proofs.Answering.{ill_formed_tables, no_tables, some_tables}
use Rattle.rs_answers.proofs.tables.project_all.Goals as goal

pub returns-in-Err : goal.returns-in-Err
returns-in-Err c = subst (λ d. IfOk c.wf_answer.result (Projects d)) c.document.view_is (ill_formed_tables _ c.in-Err.fault c.wf_answer.result c.in-Err.ensures.err c.wf_answer.ensures)

pub returns-in-Err-projections_of : goal.returns-in-Err-projections_of
returns-in-Err-projections_of c =
    subst (λ d. IfOk c.proj_answer.result (Projects d)) c.document.view_is
    (no_tables _ c.in-Err-projections_of.fault c.proj_answer.result c.in_default.ensures.none c.in-Err-projections_of.ensures.err c.proj_answer.ensures.answer c.proj_answer.ensures.memory)

pub returns : goal.returns
returns c =
    subst (λ (d : Document_data). Projects d (record { text = c.in_ok-tables_text.field-0; verdict = Fine })) c.document.view_is
    (some_tables _ c.in-Ok.projections.items c.in_ok-tables_text.field-0 c.in_default.ensures.none c.in-Ok.ensures.ok (rw c.as_slice.ensures.value at c.in_ok-tables_text.ensures))
