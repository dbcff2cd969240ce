use Rattle.std.proofs.Common.{◌≡◌, ℕ, List, length, ap, refl, subst, None, arith}
use Rattle.std.specs.Prelude.{IfOk}
use Rattle.std.proofs.lemmas.Option.{slice_get_read}
use Rattle.rs_model.specs.Data.{Protocol_data}
use Rattle.rs_model.specs.Faults as of_machines
use Rattle.rs_project.specs.Data.{Projection_data}
use Rattle.rs_documents.specs.Data.{Document_data}
use Rattle.rs_draw.specs.PutsOff.{DrawsOwn}
use Rattle.rs_draw.proofs.Accepting.{drawn_beside, drawn_unprojected, is_proper}
use Rattle.rs_draw.proofs.own.draw_own.Goals as goal

pub returns-in-Err-projections_of : goal.returns-in-Err-projections_of
returns-in-Err-projections_of c =
    subst (λ d. IfOk c.drawn_unprojected.result (DrawsOwn d c.args.place c.args.machine.now)) c.document.view_is
    (drawn_unprojected _ c.args.place c.args.machine.now c.in-Err-projections_of.fault c.drawn_unprojected.result c.in-Err-projections_of.ensures.err c.drawn_unprojected.ensures.drawn
    c.drawn_unprojected.ensures.cause)

pub draw_beside-requires-clause-theirs : goal.draw_beside-requires-clause-theirs
draw_beside-requires-clause-theirs c =
    let ps : List Projection_data = c.in-Ok.projections.items in
    let many : length ps ≡ c.document.inside.protocol.roles = c.in-Ok.ensures.ok.many in
    let roles : length c.args.document.now.names.roles ≡ c.args.document.now.protocol.roles = c.requires.ready.a_name_each in
    let same : c.document.inside.protocol.roles ≡ c.args.document.now.protocol.roles = ap (λ (d : Document_data). d.protocol.roles) c.document.view_is in
    let low = c.requires.role in
    is_proper c.document.inside.protocol c.args.place c.behind-projections.inside.machine ps c.index.result.now c.in_default.ensures.none c.in-Ok.ensures.ok
    (slice_get_read ps (length ps) c.args.place c.index.result.now refl (omega arith) c.index.ensures) (ap (λ (p : Projection_data). p.machine) c.behind-projections.view_is) (omega arith)

pub returns : goal.returns
returns c =
    let ps : List Projection_data = c.in-Ok.projections.items in
    let many : length ps ≡ c.document.inside.protocol.roles = c.in-Ok.ensures.ok.many in
    let roles : length c.args.document.now.names.roles ≡ c.args.document.now.protocol.roles = c.requires.ready.a_name_each in
    let same : c.document.inside.protocol.roles ≡ c.args.document.now.protocol.roles = ap (λ (d : Document_data). d.protocol.roles) c.document.view_is in
    let low = c.requires.role in
    subst (λ d. IfOk c.draw_beside.result (DrawsOwn d c.args.place c.args.machine.now)) c.document.view_is
    (drawn_beside _ c.args.place c.args.machine.now c.behind-projections.inside.machine ps c.index.result.now c.draw_beside.result c.in_default.ensures.none c.in-Ok.ensures.ok
    (slice_get_read ps (length ps) c.args.place c.index.result.now refl (omega arith) c.index.ensures) (ap (λ (p : Projection_data). p.machine) c.behind-projections.view_is)
    (subst (λ (n : ℕ). of_machines.first_fault c.args.machine.now n ≡ None) (ap (λ (p : Protocol_data). p.roles) c.protocol.view_is) c.in_default-check.ensures.none) c.draw_beside.ensures)
