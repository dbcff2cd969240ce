use Rattle.std.proofs.Common.{ap, sym, subst}
use Rattle.rs_documents.specs.Data.{Document_data}
use Rattle.rs_model.specs.Data.{Protocol_data}
use Rattle.rs_safety.specs.Sessions.{IsSession}
use Rattle.rs_answers.proofs.accepting.accept_document.Goals as goal

pub accept_derived-requires-clause-session : goal.accept_derived-requires-clause-session
accept_derived-requires-clause-session c =
    subst (λ (p : Protocol_data). IsSession p c.in-Ok.session.projections.items c.in-Ok.session.machines.items) (sym (ap (λ (d : Document_data). d.protocol) c.document.view_is))
    c.in-Ok.ensures.session
