use Rattle.std.proofs.Common.{◌≡◌, List, length, ap, refl, subst, arith}
use Rattle.std.specs.Prelude.{IfOk}
use Rattle.std.proofs.lemmas.Option.{slice_get_read}
use Rattle.rs_project.specs.Data.{Projection_data}
use Rattle.rs_documents.specs.Data.{Document_data}
use Rattle.rs_draw.specs.Draws.{DrawsProjection}
use Rattle.rs_draw.proofs.Answered.{ill_formed, none_projected, projected}
use Rattle.rs_draw.proofs.drawing.draw_projection.Goals as goal

pub returns-in-Err : goal.returns-in-Err
returns-in-Err c =
    subst (λ d. IfOk c.refusal_answer.result (DrawsProjection d c.args.place)) c.document.view_is (ill_formed _ c.args.place c.in-Err.fault c.refusal_answer.result c.in-Err.ensures.err c.refusal_answer.ensures.answer)

pub returns-in-Err-projections_of : goal.returns-in-Err-projections_of
returns-in-Err-projections_of c =
    subst (λ d. IfOk c.refusal_answer-in-Err-projections_of.result (DrawsProjection d c.args.place)) c.document.view_is
    (none_projected _ c.args.place c.in-Err-projections_of.fault c.from.result c.refusal_answer-in-Err-projections_of.result c.in_default.ensures.none c.in-Err-projections_of.ensures.err c.from.ensures
    c.refusal_answer-in-Err-projections_of.ensures.answer c.refusal_answer-in-Err-projections_of.ensures.memory)

pub returns : goal.returns
returns c =
    let ps : List Projection_data = c.in-Ok.projections.items in
    let many : length ps ≡ c.document.inside.protocol.roles = c.in-Ok.ensures.ok.many in
    let roles : length c.args.document.now.names.roles ≡ c.args.document.now.protocol.roles = c.requires.ready.a_name_each in
    let same : c.document.inside.protocol.roles ≡ c.args.document.now.protocol.roles = ap (λ (d : Document_data). d.protocol.roles) c.document.view_is in
    let low = c.requires.role in
    subst (λ d. IfOk c.drawn_machine.result (DrawsProjection d c.args.place)) c.document.view_is
    (projected _ c.args.place ps c.index.result.now c.behind-projections.inside.machine c.drawn_machine.result c.in_default.ensures.none c.in-Ok.ensures.ok
    (slice_get_read ps (length ps) c.args.place c.index.result.now refl (omega arith) c.index.ensures) (ap (λ (p : Projection_data). p.machine) c.behind-projections.view_is) c.drawn_machine.ensures)
