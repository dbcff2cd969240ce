use Rattle.std.proofs.Common.{◌∙◌, ℕ, [], ap}
use Rattle.std.specs.Prelude.{slice_index_or, map}
use Rattle.rs_answers.proofs.Derivings.{session_has}
use Rattle.rs_documents.specs.Data.{Document_data}
use Rattle.rs_places.specs.Data.{Places_data}
use Rattle.rs_safety.proofs.Accepts.{machine_proper, projection_proper}
use Rattle.rs_reasons.proofs.Reasons.{machine_found, mapped, projection_found, refuses_it, tells_of_machine}
use Rattle.rs_reasons.proofs.explaining.of_machine_text.Goals as goal

pub underivable_text-requires-clause-ours : goal.underivable_text-requires-clause-ours
underivable_text-requires-clause-ours c =
    let d = c.args.document.now in
    let ps = c.args.session.now.projections.items in
    let ms = c.args.session.now.machines.items in
    let s = session_has d ps ms c.requires.ready c.requires.has in
    machine_proper d.protocol ps ms s c.args.underivable.role.0 c.index-2.result.now
    (machine_found c.args.bound ms ps c.args.underivable.role c.args.underivable.fault c.from-place.result c.index-2.result.now c.requires.refused c.from-place.ensures c.index-2.ensures)

pub underivable_text-requires-clause-theirs : goal.underivable_text-requires-clause-theirs
underivable_text-requires-clause-theirs c =
    let d = c.args.document.now in
    let ps = c.args.session.now.projections.items in
    let ms = c.args.session.now.machines.items in
    let s = session_has d ps ms c.requires.ready c.requires.has in
    projection_proper d.protocol ps ms s c.args.underivable.role.0 c.index.result.now
    (projection_found c.args.bound ms ps c.args.underivable.role c.args.underivable.fault c.from-place.result c.index.result.now c.requires.refused c.from-place.ensures c.index.ensures)

pub underivable_text-requires-clause-refused : goal.underivable_text-requires-clause-refused
underivable_text-requires-clause-refused c =
    let ps = c.args.session.now.projections.items in
    let ms = c.args.session.now.machines.items in
    let u = c.args.underivable in
    refuses_it c.args.bound c.number.result ms ps u.role u.fault c.index-2.result.now c.index.result.now c.requires.refused
    (machine_found c.args.bound ms ps u.role u.fault c.from-place.result c.index-2.result.now c.requires.refused c.from-place.ensures c.index-2.ensures)
    (projection_found c.args.bound ms ps u.role u.fault c.from-place.result c.index.result.now c.requires.refused c.from-place.ensures c.index.ensures) c.number.ensures.number

pub returns : goal.returns
returns c =
    let d = c.args.document.now in
    let ps = c.args.session.now.projections.items in
    let ms = c.args.session.now.machines.items in
    let u = c.args.underivable in
    let states =
    c.places_at.ensures ∙ ap (λ x. slice_index_or (map (λ m. m.items) x) c.from-place.result []) c.as_slice-2.ensures.value
    ∙ ap (λ (x : Places_data). slice_index_or x.machines c.from-place.result []) c.places.view_is
    ∙ ap (λ (n : ℕ). slice_index_or c.args.places.now.machines n []) c.from-place.ensures in
    mapped _ _ c.underivable_text.result
    (λ lines tells.
    tells_of_machine c.args.bound c.number.result d c.args.places.now u ps ms c.index-2.result.now c.index.result.now c.document.inside.names
    c.document.inside.protocol c.as_slice.result.now c.places_at.result.now lines c.requires.has
    (machine_found c.args.bound ms ps u.role u.fault c.from-place.result c.index-2.result.now c.requires.refused c.from-place.ensures c.index-2.ensures)
    (projection_found c.args.bound ms ps u.role u.fault c.from-place.result c.index.result.now c.requires.refused c.from-place.ensures c.index.ensures) c.number.ensures.number
    (ap (λ (x : Document_data). x.names) c.document.view_is) (ap (λ (x : Document_data). x.protocol) c.document.view_is)
    (c.as_slice.ensures.value ∙ ap (λ (x : Places_data). x.talks) c.places.view_is) states tells) c.underivable_text.ensures

pub underivable_text-requires-clause-within : goal.underivable_text-requires-clause-within
underivable_text-requires-clause-within c = c.number.ensures.range.1
