use Rattle.std.proofs.Common.{◌≡◌, ◌++◌, ◌∙◌, ℕ, List, Option, map, ap}
use Rattle.rs_answers.specs.Report.{report}
use Rattle.rs_documents.specs.Data.{Document_data}
use Rattle.rs_model.specs.Data.{Machine_data, Names_data}
use Rattle.rs_places.specs.Data.{Places_data}
use Rattle.rs_places.specs.declared.places.Position.{Position}
use Rattle.rs_project.specs.Data.{Projection_data}
use Rattle.rs_reasons.specs.Accepted.{machines_lines}
use Rattle.rs_reasons.proofs.Reasons.{tells_accepted}
use Rattle.rs_reasons.proofs.explaining.explain_accepted.Goals as goal

pub returns : goal.returns
returns c = λ bound found.
    let d = c.args.document.now in
    let ds = c.args.derivations.now in
    let lines : Names_data → List (List Position) → List (Option Machine_data) → List Projection_data → List ℕ =
    λ (x : Names_data) (y : List (List Position)) (z : List (Option Machine_data)) (w : List Projection_data). c.answer.inside.text ++ machines_lines x y 0 z w ds in
    let roles : c.as_slice.result.now ≡ d.names.roles = c.as_slice.ensures.value ∙ ap (λ (n : Names_data). n.roles) c.names.view_is ∙ ap (λ (x : Document_data). x.names.roles) c.document.view_is in
    let places = ap (map (λ m. m.items)) c.as_slice-2.ensures.value ∙ ap (λ (x : Places_data). x.machines) c.places.view_is in
    let own = c.as_slice-3.ensures.value ∙ ap (λ (x : Document_data). x.machines) c.document.view_is in
    tells_accepted c.args.places.now bound d c.args.session.now.projections.items c.args.session.now.machines.items ds _ c.push_machines.new.text c.requires.has found
    (c.answer.view_is ∙ c.in_ok-answer.ensures ∙ ap (λ (x : List (List ℕ)). report x ds) roles)
    (c.in_ok-push_machines.ensures
    ∙ ap (λ (x : Document_data). lines x.names (map (λ m. m.items) c.as_slice-2.result.now) c.as_slice-3.result.now c.as_slice-4.result.now) c.document.view_is
    ∙ ap (λ x. lines d.names x c.as_slice-3.result.now c.as_slice-4.result.now) places
    ∙ ap (λ x. lines d.names c.args.places.now.machines x c.as_slice-4.result.now) own
    ∙ ap (λ x. lines d.names c.args.places.now.machines d.machines x) c.as_slice-4.ensures.value)
