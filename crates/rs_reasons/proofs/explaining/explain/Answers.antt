use Rattle.std.proofs.Common.{◌∙◌, ℕ, List, ap, subst}
use Rattle.rs_documents.specs.Data.{Document_data}
use Rattle.rs_model.specs.Data.{Names_data}
use Rattle.rs_places.specs.Places.{ArePlaces}
use Rattle.rs_reasons.proofs.Reasons.{mapped}
use Rattle.rs_reasons.proofs.explaining.explain.Goals as goal

pub returns-in-Ok : goal.returns-in-Ok
returns-in-Ok c =
    let roles = c.as_slice.ensures.value ∙ ap (λ (x : Names_data). x.roles) c.names.view_is ∙ ap (λ (x : Document_data). x.names.roles) c.document.view_is in
    mapped _ _ c.explain_session.result
    (λ a h. record { places = c.in_ok-places.places; are_places = subst (λ (x : List (List ℕ)). ArePlaces c.args.bytes.now x c.in_ok-places.places) roles c.in_ok-places.ensures; explains = h })
    c.explain_session.ensures

pub returns : goal.returns
returns c =
    let roles = c.as_slice.ensures.value ∙ ap (λ (x : Names_data). x.roles) c.names.view_is ∙ ap (λ (x : Document_data). x.names.roles) c.document.view_is in
    mapped _ _ c.explain_no_session.result
    (λ a h. record {
      places = c.in_ok-places.places;
      are_places = subst (λ (x : List (List ℕ)). ArePlaces c.args.bytes.now x c.in_ok-places.places) roles c.in_ok-places.ensures;
      explains = h c.args.bound;
    }) c.explain_no_session.ensures
