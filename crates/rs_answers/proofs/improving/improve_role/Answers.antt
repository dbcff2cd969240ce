use Rattle.std.proofs.Common.{rules, ◌≡◌, ◌∙◌, ◌⊎◌, ℕ, List, ap, sym, subst, subst₂, Some, None, slice_get}
use Rattle.std.specs.Prelude.{IfOk}
use Rattle.rs_documents.specs.Canonical.{CanBeShown}
use Rattle.rs_documents.specs.Data.{Document_data}
use Rattle.rs_documents.specs.Ready.{DocumentIsReady}
use Rattle.rs_text.specs.Names.{place_of}
use Rattle.rs_answers.specs.Improving.{TellsImproved}
use Rattle.rs_answers.specs.Refusals.{HasNoDerivations, refusal_answer}
use Rattle.rs_answers.specs.declared.refusals.Refusal.TheVariants as refusal
use Rattle.rs_answers.proofs.ImprovedAnswers.{place_ready, ready_without, shown_without, told_improved, told_refused}
use Rattle.rs_answers.proofs.ImprovedSessions.{set_here}
use Rattle.rs_answers.proofs.improving.improve_role.Goals as goal

pub without_own-document-requires : goal.without_own-document-requires
without_own-document-requires c =
    let roles : c.as_slice.result.now ≡ c.args.document.names.roles = search rules in
    place_ready c.as_slice-role.result.now c.args.document c.in-Some.place c.requires.ready (c.in-Some.ensures ∙ ap (place_of c.as_slice-role.result.now) roles)

pub derived_session-requires : goal.derived_session-requires
derived_session-requires c = record { ready = subst DocumentIsReady (sym c.without_own-document.ensures) (ready_without c.args.document c.in-Some.place c.requires.ready) }

pub improve_session-requires-clause-ready : goal.improve_session-requires-clause-ready
improve_session-requires-clause-ready c = subst DocumentIsReady (sym c.without_own-document.ensures) (ready_without c.args.document c.in-Some.place c.requires.ready)

pub improve_session-requires-clause-shown : goal.improve_session-requires-clause-shown
improve_session-requires-clause-shown c = subst CanBeShown (sym c.without_own-document.ensures) (shown_without c.args.document c.in-Some.place c.requires.shown)

pub improve_session-requires-clause-session : goal.improve_session-requires-clause-session
improve_session-requires-clause-session c =
    let roles : c.as_slice.result.now ≡ c.args.document.names.roles = search rules in
    let place = place_ready c.as_slice-role.result.now c.args.document c.in-Some.place c.requires.ready (c.in-Some.ensures ∙ ap (place_of c.as_slice-role.result.now) roles) in
    record {
      none = subst (λ (d : Document_data). slice_get d.machines c.in-Some.place ≡ Some None) (sym c.without_own-document.ensures) (set_here c.args.document.machines c.in-Some.place None place);
      within = c.in-Ok.ensures.bound;
      has = c.in-Ok.ensures.machines;
      canonical = c.in-Ok.ensures.derivations;
    }

pub returns-in-Ok : goal.returns-in-Ok
returns-in-Ok c =
    let roles : c.as_slice.result.now ≡ c.args.document.names.roles = search rules in
    let known = c.in-Some.ensures ∙ ap (place_of c.as_slice-role.result.now) roles ∙ ap (λ (w : List ℕ). place_of w c.args.document.names.roles) c.as_slice-role.ensures in
    told_improved c.args.role.now c.args.bound c.args.swaps c.args.document c.in-Some.place c.in-Ok.session.derivations.items c.improve_session.result known
    (subst₂ (λ (w : List ℕ) (d : Document_data). IfOk c.improve_session.result (TellsImproved w c.args.bound c.args.swaps d c.in-Some.place c.in-Ok.session.derivations.items))
    c.as_slice-role.ensures c.without_own-document.ensures c.improve_session.ensures)

pub returns-in-Err : goal.returns-in-Err
returns-in-Err c =
    let roles : c.as_slice.result.now ≡ c.args.document.names.roles = search rules in
    let known = c.in-Some.ensures ∙ ap (place_of c.as_slice-role.result.now) roles ∙ ap (λ (w : List ℕ). place_of w c.args.document.names.roles) c.as_slice-role.ensures in
    told_refused c.args.role.now c.args.bound c.args.swaps c.args.document c.in-Some.place c.in-Err.refusal c.refusal_answer.result known
    (subst (λ (d : Document_data). (c.in-Err.refusal ≡ refusal.NoMemory) ⊎ HasNoDerivations c.args.bound d c.in-Err.refusal) c.without_own-document.ensures c.in-Err.ensures.err)
    (subst (λ (d : Document_data). IfOk c.refusal_answer.result (λ a. a ≡ refusal_answer d.names c.in-Err.refusal)) (c.document-2.view_is ∙ c.without_own-document.ensures) c.refusal_answer.ensures.answer)
    c.refusal_answer.ensures.memory
