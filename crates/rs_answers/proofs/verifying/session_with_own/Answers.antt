use Rattle.std.proofs.Common.{◌∙◌, List, Option, inr, ap, sym, subst, subst₂}
use Rattle.std.specs.List.{list_all}
use Rattle.std.specs.Option.{is_some}
use Rattle.rs_derive.specs.Data.{Derivation_data}
use Rattle.rs_documents.specs.Data.{Document_data}
use Rattle.rs_model.specs.Data.{Machine_data}
use Rattle.rs_project.specs.Data.{Projection_data}
use Rattle.rs_answers.specs.Verifying.{AreCheckable, IsBlamed}
use Rattle.rs_answers.proofs.Derivings.{session_has}
use Rattle.rs_answers.proofs.Verified.{blame_same, checkable, missing_is_blamed, tells_no_session}
use Rattle.rs_answers.proofs.verifying.session_with_own.Goals as goal

pub returns-in_err-session-clause-err : goal.returns-in_err-session-clause-err
returns-in_err-session-clause-err c = tells_no_session c.args.document.now c.in_err-session.field-0.0 c.from_residual.result c.from_residual.ensures.1 c.in_err-session.ensures.err

pub first_blame-requires-clause-checkable : goal.first_blame-requires-clause-checkable
first_blame-requires-clause-checkable c =
    let d = c.args.document.now in
    let ms = c.in_ok-session.session.machines.items in
    let ps = c.in_ok-session.session.projections.items in
    subst (λ (x : List (Option Derivation_data)). AreCheckable x c.as_slice.result.now c.as_slice-2.result.now)
    (sym (c.as_slice-own.ensures.value ∙ ap (λ (x : Document_data). x.derivations) c.document.view_is))
    (subst₂ (λ (y : List Machine_data) (z : List Projection_data). AreCheckable d.derivations y z) (sym c.as_slice.ensures.value) (sym c.as_slice-2.ensures.value)
    (checkable d.protocol d.derivations ms ps d.names.roles (session_has d ps ms c.requires.ready c.in_ok-session.ensures.ok) c.requires.ready.derivations))

pub unreachable-requires : goal.unreachable-requires
unreachable-requires c =
    let d = c.args.document.now in
    let ms = c.in_ok-session.session.machines.items in
    let ps = c.in_ok-session.session.projections.items in
    let own = c.as_slice-own.ensures.value ∙ ap (λ (x : Document_data). x.derivations) c.document.view_is in
    missing_is_blamed d.protocol d.derivations ms ps (session_has d ps ms c.requires.ready c.in_ok-session.ensures.ok) (c.requires.ready.derivations.one_each ∙ c.requires.ready.a_name_each)
    (ap (λ (x : List (Option Derivation_data)). list_all is_some x) (sym own) ∙ sym c.are_all_there.ensures ∙ c.if-are_all_there.false)
    (sym (blame_same _ _ _ _ _ _ own c.as_slice.ensures.value c.as_slice-2.ensures.value) ∙ c.in-None.ensures.none)

pub returns-clause-err : goal.returns-clause-err
returns-clause-err c =
    let own = c.as_slice-own.ensures.value ∙ ap (λ (x : Document_data). x.derivations) c.document.view_is in
    inr (IsBlamed c.in_ok-session.session.projections.items c.in_ok-session.session.machines.items c.in_ok-session.ensures.ok (record { role = c.in-Some.role; blame = c.in-Some.blame })
    (sym (blame_same _ _ _ _ _ _ own c.as_slice.ensures.value c.as_slice-2.ensures.value) ∙ c.in-Some.ensures.some))
