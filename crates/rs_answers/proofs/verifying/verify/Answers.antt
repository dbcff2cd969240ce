use Rattle.std.proofs.Common.{◌∙◌, ap, ap₂}
use Rattle.std.proofs.lemmas.Result.{IfOk-weaker}
use Rattle.rs_model.specs.Data.{Names_data}
use Rattle.rs_answers.specs.Report.{report}
use Rattle.rs_answers.specs.Verifying.{IsRefused, IsReported}
use Rattle.rs_answers.proofs.Verified.{told_why}
use Rattle.rs_answers.proofs.verifying.verify.Goals as goal

pub returns-in-Ok : goal.returns-in-Ok
returns-in-Ok c =
    let session = c.in-Ok.accepted.session in
    let is = c.in-Ok.ensures.accepted in
    IfOk-weaker c.report_of.result _ _
    (λ a told. IsReported session.projections session.machines is.verified (told ∙ ap₂ report (ap (λ (n : Names_data). n.roles) is.names) is.derivations)) c.report_of.ensures

pub returns-in-Err : goal.returns-in-Err
returns-in-Err c =
    IfOk-weaker c.answer.result _ _ (λ a h. IsRefused c.in-Err.refused.refusal h.0 h.1)
    (told_why c.args.document c.in-Err.refused c.answer.result c.in-Err.ensures.refused c.answer.ensures.answer c.answer.ensures.memory)
