use Rattle.std.proofs.Common.{◌≡◌, true, List, Option, sym, subst, subst₂}
use Rattle.std.specs.Prelude.{IfOk}
use Rattle.rs_derive.specs.Data.{Derivation_data}
use Rattle.rs_documents.specs.Canonical.{CanBeShown}
use Rattle.rs_documents.specs.Data.{Document_data}
use Rattle.rs_answers.specs.Refusals.{refusal_answer}
use Rattle.rs_answers.specs.Shown.{Shows}
use Rattle.rs_answers.proofs.Answering.{refused, shown}
use Rattle.rs_answers.proofs.Printables.{can_show_found}
use Rattle.rs_answers.proofs.checks.check_with_derivations.Goals as goal

pub show-requires : goal.show-requires
show-requires c =
    subst₂ (λ (d : Document_data) (own : List (Option Derivation_data)). CanBeShown (record d { derivations = own })) (sym c.document.view_is) (sym c.in_ok-document-inside-in-Ok.ensures)
    (can_show_found c.args.bound c.args.document c.in-Ok.session.projections.items c.in-Ok.session.machines.items c.in-Ok.session.derivations.items c.requires.ready c.requires.shown
    c.in-Ok.ensures.bound
    c.in-Ok.ensures.machines c.in-Ok.ensures.derivations)

pub returns-in-Ok : goal.returns-in-Ok
returns-in-Ok c =
    shown c.args.bound c.args.document c.in-Ok.session.projections.items c.in-Ok.session.machines.items c.in-Ok.session.derivations.items c.show.result c.in-Ok.ensures.machines
    c.in-Ok.ensures.derivations
    (subst₂ (λ (d : Document_data) (own : List (Option Derivation_data)). IfOk c.show.result (Shows (record d { derivations = own })))
    c.document.view_is c.in_ok-document-inside-in-Ok.ensures c.show.ensures)

pub returns : goal.returns
returns c =
    refused c.args.bound true c.args.document c.in-Err.refusal c.refusal_answer.result c.in-Err.ensures.err
    (subst (λ (d : Document_data). IfOk c.refusal_answer.result (λ a. a ≡ refusal_answer d.names c.in-Err.refusal)) c.document.view_is c.refusal_answer.ensures.answer) c.refusal_answer.ensures.memory
