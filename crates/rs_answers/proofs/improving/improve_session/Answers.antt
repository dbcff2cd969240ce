use Rattle.std.proofs.Common.{◌≡◌, ◌<◌, ℕ, List, length, sym, subst, subst₂, Some, slice_get}
use Rattle.std.proofs.lemmas.Result.{IfOk-weaker}
use Rattle.rs_documents.specs.Canonical.{CanBeShown}
use Rattle.rs_documents.specs.Data.{Document_data}
use Rattle.rs_model.proofs.Lists.{item_at}
use Rattle.rs_project.specs.Data.{Projection_data}
use Rattle.rs_answers.specs.Improves.{ShowsBehind}
use Rattle.rs_answers.proofs.ImprovedAnswers.{can_be_improved, improvement_can_be_shown, is_improved_session, role_has_a_derivation, role_has_a_place, role_has_a_projection}
use Rattle.rs_answers.proofs.improving.improve_session.Goals as goal

pub improve_projection-requires-clause-known : goal.improve_projection-requires-clause-known
improve_projection-requires-clause-known c =
    subst (λ (z : List Projection_data). c.args.place < length z) (sym c.as_slice.ensures.value) (role_has_a_projection c.args.bound c.args.document c.args.place c.args.session c.requires.ready c.requires.session)

pub improve_projection-requires-clause-proper : goal.improve_projection-requires-clause-proper
improve_projection-requires-clause-proper c = λ j at.
    can_be_improved c.args.bound c.args.document c.args.place c.args.session c.requires.ready c.requires.session j
    (subst (λ (z : List Projection_data). slice_get z c.args.place ≡ Some j) c.as_slice.ensures.value at)

pub improved_document-requires-clause-role : goal.improved_document-requires-clause-role
improved_document-requires-clause-role c = role_has_a_place c.args.bound c.args.document c.args.place c.args.session c.requires.ready c.requires.session

pub improved_document-requires-clause-derived : goal.improved_document-requires-clause-derived
improved_document-requires-clause-derived c = role_has_a_derivation c.args.bound c.args.document c.args.place c.args.session c.requires.ready c.requires.session

pub show_behind-requires : goal.show_behind-requires
show_behind-requires c =
    let j = item_at c.args.session.projections.items c.args.place (role_has_a_projection c.args.bound c.args.document c.args.place c.args.session c.requires.ready c.requires.session) in
    let improved = c.in_ok-improved.ensures j.0 (subst (λ (z : List Projection_data). slice_get z c.args.place ≡ Some j.0) (sym c.as_slice.ensures.value) j.1) in
    subst CanBeShown (sym c.in_ok-document.ensures)
    (improvement_can_be_shown c.args.bound c.args.document c.args.place c.args.session c.requires.ready c.requires.session j.0 j.1 c.args.swaps c.in_ok-improved.improved improved c.requires.shown)

pub returns : goal.returns
returns c =
    let j = item_at c.args.session.projections.items c.args.place (role_has_a_projection c.args.bound c.args.document c.args.place c.args.session c.requires.ready c.requires.session) in
    let improved = c.in_ok-improved.ensures j.0 (subst (λ (z : List Projection_data). slice_get z c.args.place ≡ Some j.0) (sym c.as_slice.ensures.value) j.1) in
    let session = is_improved_session c.args.bound c.args.document c.args.place c.args.session c.requires.ready c.requires.session j.0 j.1 c.args.swaps c.in_ok-improved.improved improved in
    IfOk-weaker c.show_behind.result _ _ (λ a h. record {
      improved = c.in_ok-improved.improved;
      session = session;
      shows = subst₂ (λ (line : List ℕ) (d : Document_data). ShowsBehind line d a) c.in_ok-line.ensures c.in_ok-document.ensures h;
    }) c.show_behind.ensures
