use Rattle.std.proofs.Common.{ap, sym, subst}
use Rattle.rs_documents.specs.Data.{Document_data}
use Rattle.rs_model.specs.Data.{Protocol_data}
use Rattle.rs_safety.specs.Sessions.{AreOneEach, IsSession}
use Rattle.rs_answers.specs.Verified.{BlamesFirst}
use Rattle.rs_answers.specs.Verifying.{those_there}
use Rattle.rs_answers.proofs.Derivings.{session_has}
use Rattle.rs_answers.proofs.Verified.{are_one_each, blamed_is_why}
use Rattle.rs_answers.proofs.verifying.accept_by_own.Goals as goal

pub accept_session-requires-clause-session : goal.accept_session-requires-clause-session
accept_session-requires-clause-session c =
    subst (λ (p : Protocol_data). IsSession p c.in-Ok.session.projections.items c.in-Ok.session.machines.items) (sym (ap (λ (d : Document_data). d.protocol) c.document.view_is))
    (session_has c.args.document c.in-Ok.session.projections.items c.in-Ok.session.machines.items c.requires.ready c.in-Ok.ensures.ok)

pub accept_session-requires-clause-derivations : goal.accept_session-requires-clause-derivations
accept_session-requires-clause-derivations c =
    let d = c.args.document in
    subst (λ (x : Document_data). AreOneEach x.protocol.roles (those_there x.derivations)) (sym c.document.view_is)
    (are_one_each d.protocol d.derivations d.names.roles c.requires.ready.a_name_each c.requires.ready.derivations c.in-Ok.ensures.there)

pub returns-clause-refused : goal.returns-clause-refused
returns-clause-refused c =
    let ms = c.in-Ok.session.machines.items in
    let ps = c.in-Ok.session.projections.items in
    let why = c.in-Err-accept_session.refusal in
    record {
      names = ap (λ (x : Document_data). x.names) c.document.view_is;
      why = blamed_is_why c.args.document ps ms why c.in-Ok.ensures.ok (subst (λ (x : Document_data). BlamesFirst x.derivations ms ps why) c.document.view_is c.in-Err-accept_session.ensures.refused);
    }
