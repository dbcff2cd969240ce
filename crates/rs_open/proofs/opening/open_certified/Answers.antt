use Rattle.std.proofs.Common.{◌≡◌, ◌∙◌, List, Option, Result, true, false, ap, sym, subst}
use Rattle.std.specs.List.{list_all}
use Rattle.std.specs.Option.{is_some}
use Rattle.std.specs.Prelude.{IfErr}
use Rattle.rs_answers.specs.declared.accepting.AcceptedDocument.{AcceptedDocument}
use Rattle.rs_answers.specs.declared.accepting.RefusedDocument.{RefusedDocument}
use Rattle.rs_derive.specs.Data.{Derivation_data}
use Rattle.rs_documents.specs.Data.{Document_data}
use Rattle.rs_open.specs.Opening.{HasAllDerivations, IsUncertified}
use Rattle.rs_open.proofs.Opened.{IsRefusedFor, refuses_text, search_refuses_uncertified, test_refuses_uncertified, unread_refused}
use Rattle.rs_open.proofs.opening.open_certified.Goals as goal
use Rattle.rs_open.proofs.opening.open_certified.Goals.{then-are_all_there, else-are_all_there}

pub returns-in_err-document-clause-refused : goal.returns-in_err-document-clause-refused
returns-in_err-document-clause-refused c =
    unread_refused (IsUncertified c.args.bound) c.args.text.now c.in_err-document.field-0.0 c.from_residual.result c.from_residual.ensures.1 c.in_err-document.ensures.refused

pub returns-clause-refused : goal.returns-clause-refused
returns-clause-refused c =
    let d = c.in_ok-document.document in
    let bound = c.args.bound in
    let own = c.as_slice.ensures.value ∙ ap (λ (x : Document_data). x.derivations) c.document.view_is in
    let all : HasAllDerivations d ≡ c.are_all_there.result = ap (λ (x : List (Option Derivation_data)). list_all is_some x) (sym own) ∙ sym c.are_all_there.ensures in
    let P : Result AcceptedDocument RefusedDocument → Type 0 = λ r. IfErr r (IsRefusedFor (IsUncertified bound) d) in
    let done = λ (is : P c.if-are_all_there.accepted).
    refuses_text (IsUncertified bound) c.args.text.now d c.if-are_all_there.accepted c.opened.result c.in_ok-document.ensures.short c.in_ok-document.ensures.spells is c.opened.ensures in
    elim c.if-are_all_there.branch [
      | then-are_all_there w ↦
          done (subst P (sym w.accepted-is) (test_refuses_uncertified bound d w.accept_by_own-accepted.result (all ∙ w.if-are_all_there.true) w.accept_by_own-accepted.ensures.refused))
      | else-are_all_there w ↦
          done (subst P (sym w.accepted-is) (search_refuses_uncertified bound d w.accept_document-accepted.result (all ∙ w.if-are_all_there.false) w.accept_document-accepted.ensures.refused))
    ]
