use Rattle.rs_answers.specs.Refusals.{HasNoDerivations}
use Rattle.rs_open.proofs.Opened.{refuses_text, search_refuses, unread_refused}
use Rattle.rs_open.proofs.opening.open_within.Goals as goal

pub returns-in_err-document-clause-refused : goal.returns-in_err-document-clause-refused
returns-in_err-document-clause-refused c =
    unread_refused (HasNoDerivations c.args.bound) c.args.text.now c.in_err-document.field-0.0 c.from_residual.result c.from_residual.ensures.1 c.in_err-document.ensures.refused

pub returns-clause-refused : goal.returns-clause-refused
returns-clause-refused c =
    refuses_text (HasNoDerivations c.args.bound) c.args.text.now c.in_ok-document.document c.accept_document.result c.opened.result c.in_ok-document.ensures.short
    c.in_ok-document.ensures.spells (search_refuses c.args.bound c.in_ok-document.document c.accept_document.result c.accept_document.ensures.refused) c.opened.ensures
