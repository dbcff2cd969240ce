use Rattle.rs_answers.specs.Verifying.{IsUnverified}
use Rattle.rs_open.proofs.Opened.{refuses_text, test_refuses, unread_refused}
use Rattle.rs_open.proofs.opening.open_verified.Goals as goal

pub returns-in_err-document-clause-refused : goal.returns-in_err-document-clause-refused
returns-in_err-document-clause-refused c =
    unread_refused IsUnverified c.args.text.now c.in_err-document.field-0.0 c.from_residual.result c.from_residual.ensures.1 c.in_err-document.ensures.refused

pub returns-clause-refused : goal.returns-clause-refused
returns-clause-refused c =
    refuses_text IsUnverified c.args.text.now c.in_ok-document.document c.accept_by_own.result c.opened.result c.in_ok-document.ensures.short c.in_ok-document.ensures.spells
    (test_refuses c.in_ok-document.document c.accept_by_own.result c.accept_by_own.ensures.refused) c.opened.ensures
