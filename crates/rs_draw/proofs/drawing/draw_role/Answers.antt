use Rattle.std.proofs.Common.{◌≡◌, ◌<◌, ◌∙◌, length, ap, None, Some, arith}
use Rattle.rs_model.specs.Data.{Names_data}
use Rattle.rs_text.proofs.Numbers.{place_below}
use Rattle.rs_documents.specs.Data.{Document_data}
use Rattle.rs_draw.proofs.Answered.{few_states, held, known_role, own_drawn, projection_drawn, role_below}
use Rattle.rs_draw.proofs.drawing.draw_role.Goals as goal

pub index-requires : goal.index-requires
index-requires c =
    let d : Document_data = c.args.document.now in
    let known = known_role c.as_slice-2.result.now c.args.role.now c.as_slice.result.now d.names.roles c.in-Some.place c.in-Some.ensures c.as_slice-2.ensures
    (c.as_slice.ensures.value ∙ ap (λ (n : Names_data). n.roles) c.names.view_is ∙ ap (λ (z : Document_data). z.names.roles) c.document.view_is) in
    let below : c.in-Some.place < length d.machines = role_below c.args.role.now d c.in-Some.place c.requires known in
    let same : length c.document.inside.machines.items ≡ length d.machines = ap (λ (z : Document_data). length z.machines) c.document.view_is in
    let size = c.document.inside.machines.ok in
    omega arith

pub draw_projection-requires-clause-role : goal.draw_projection-requires-clause-role
draw_projection-requires-clause-role c =
    let d : Document_data = c.args.document.now in
    place_below d.names.roles c.args.role.now c.in-Some.place
    (known_role c.as_slice-2.result.now c.args.role.now c.as_slice.result.now d.names.roles c.in-Some.place c.in-Some.ensures c.as_slice-2.ensures
    (c.as_slice.ensures.value ∙ ap (λ (n : Names_data). n.roles) c.names.view_is ∙ ap (λ (z : Document_data). z.names.roles) c.document.view_is))

pub returns-in-None : goal.returns-in-None
returns-in-None c =
    let d : Document_data = c.args.document.now in
    let known = known_role c.as_slice-2.result.now c.args.role.now c.as_slice.result.now d.names.roles c.in-Some.place c.in-Some.ensures c.as_slice-2.ensures
    (c.as_slice.ensures.value ∙ ap (λ (n : Names_data). n.roles) c.names.view_is ∙ ap (λ (z : Document_data). z.names.roles) c.document.view_is) in
    projection_drawn c.args.role.now d c.in-Some.place c.draw_projection.result known
    (held d c.in-Some.place c.document.inside.machines.items c.index.result.now None (role_below c.args.role.now d c.in-Some.place c.requires known)
    (ap (λ (z : Document_data). z.machines) c.document.view_is) c.index.ensures c.in-None.is) c.draw_projection.ensures

pub returns-in-Some-index : goal.returns-in-Some-index
returns-in-Some-index c =
    let d : Document_data = c.args.document.now in
    let known = known_role c.as_slice-2.result.now c.args.role.now c.as_slice.result.now d.names.roles c.in-Some.place c.in-Some.ensures c.as_slice-2.ensures
    (c.as_slice.ensures.value ∙ ap (λ (n : Names_data). n.roles) c.names.view_is ∙ ap (λ (z : Document_data). z.names.roles) c.document.view_is) in
    own_drawn c.args.role.now d c.in-Some.place c.in-Some-index.machine c.draw_own.result known
    (held d c.in-Some.place c.document.inside.machines.items c.index.result.now (Some c.in-Some-index.machine) (role_below c.args.role.now d c.in-Some.place c.requires known)
    (ap (λ (z : Document_data). z.machines) c.document.view_is) c.index.ensures c.in-Some-index.is) c.draw_own.ensures

pub draw_own-requires-clause-role : goal.draw_own-requires-clause-role
draw_own-requires-clause-role c =
    let d : Document_data = c.args.document.now in
    place_below d.names.roles c.args.role.now c.in-Some.place
    (known_role c.as_slice-2.result.now c.args.role.now c.as_slice.result.now d.names.roles c.in-Some.place c.in-Some.ensures c.as_slice-2.ensures
    (c.as_slice.ensures.value ∙ ap (λ (n : Names_data). n.roles) c.names.view_is ∙ ap (λ (z : Document_data). z.names.roles) c.document.view_is))

pub draw_own-requires-clause-few : goal.draw_own-requires-clause-few
draw_own-requires-clause-few c =
    let d : Document_data = c.args.document.now in
    let known = known_role c.as_slice-2.result.now c.args.role.now c.as_slice.result.now d.names.roles c.in-Some.place c.in-Some.ensures c.as_slice-2.ensures
    (c.as_slice.ensures.value ∙ ap (λ (n : Names_data). n.roles) c.names.view_is ∙ ap (λ (z : Document_data). z.names.roles) c.document.view_is) in
    few_states d c.in-Some.place c.in-Some-index.machine c.requires
    (held d c.in-Some.place c.document.inside.machines.items c.index.result.now (Some c.in-Some-index.machine) (role_below c.args.role.now d c.in-Some.place c.requires known)
    (ap (λ (z : Document_data). z.machines) c.document.view_is) c.index.ensures c.in-Some-index.is)
