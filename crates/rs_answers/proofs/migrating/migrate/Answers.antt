use Rattle.std.proofs.lemmas.Result.{IfOk-weaker}
use Rattle.rs_answers.specs.Migrates.{IsMigrated, IsRefused}
use Rattle.rs_answers.proofs.Verified.{told_why}
use Rattle.rs_answers.proofs.migrating.migrate.Goals as goal

pub returns-in-Ok : goal.returns-in-Ok
returns-in-Ok c =
    let session = c.in-Ok._accepted.session in
    IsMigrated session.projections session.machines c.in-Ok.ensures.accepted.verified c.in_ok-shown.ensures

pub returns-in-Err : goal.returns-in-Err
returns-in-Err c =
    IfOk-weaker c.answer.result _ _ (λ a h. IsRefused c.in-Err.refused.refusal h.0 h.1)
    (told_why c.args.document c.in-Err.refused c.answer.result c.in-Err.ensures.refused c.answer.ensures.answer c.answer.ensures.memory)
