use Rattle.std.proofs.Common.{◌≡◌, ◌⊎◌, All, ◌∙◌, ℕ, List, Option, ap, sym, subst, subst₂}
use Rattle.std.proofs.lemmas.Result.{IfOk-weaker}
use Rattle.rs_answers.proofs.Derivings.{all_owe_few, session_has}
use Rattle.rs_answers.specs.Derivations.{AreCanonical, IsUnderivable}
use Rattle.rs_answers.specs.Machines.{machines_of}
use Rattle.rs_derive.specs.Data.{Derivation_data}
use Rattle.rs_safety.specs.Figures.{OwesFew}
use Rattle.rs_model.specs.Data.{Machine_data}
use Rattle.rs_documents.specs.Data.{Document_data}
use Rattle.rs_project.specs.Data.{Projection_data}
use Rattle.rs_safety.specs.Sessions.{IsSession}
use Rattle.rs_search.specs.declared.faults.SearchFault.TheVariants as search
use Rattle.rs_reasons.proofs.explaining.explain_session.Goals as goal

pub derivations_of-requires : goal.derivations_of-requires
derivations_of-requires c =
    let d = c.args.document.now in
    let ps = c.args.session.now.projections.items in
    let h = c.requires.has in
    record {
      session = (
        d.protocol,
        subst₂ (λ (x : List Projection_data) (own : List (Option Machine_data)). IsSession d.protocol x (machines_of own x)) (sym c.as_slice.ensures.value)
            (sym (c.as_slice-own.ensures.value ∙ ap (λ (x : Document_data). x.machines) c.document.view_is))
            (subst (λ (z : List Machine_data). IsSession d.protocol ps z) h.machines_are (session_has d ps c.args.session.now.machines.items c.requires.ready h)),
      );
    }

pub explain_accepted-requires-clause-few : goal.explain_accepted-requires-clause-few
explain_accepted-requires-clause-few c =
    let d = c.args.document.now in
    let ps = c.args.session.now.projections.items in
    let ms = c.args.session.now.machines.items in
    let ds = c.in-Ok.derivations.items in
    let told = subst₂ (λ (x : List Projection_data) (own : List (Option Machine_data)). AreCanonical c.number.result (machines_of own x) x ds) c.as_slice.ensures.value
    (c.as_slice-own.ensures.value ∙ ap (λ (x : Document_data). x.machines) c.document.view_is) c.in-Ok.ensures.ok in
    let found = subst (λ (z : List Machine_data). AreCanonical c.number.result z ps ds) (sym c.requires.has.machines_are) told in
    subst (λ (z : List Derivation_data). All OwesFew z) (sym c.as_slice-in-Ok.ensures.value)
    (all_owe_few c.number.result c.number.ensures.range d.protocol ps ms ds (session_has d ps ms c.requires.ready c.requires.has) found)

pub explain_underivable-requires-clause-refused : goal.explain_underivable-requires-clause-refused
explain_underivable-requires-clause-refused c =
    let ps = c.args.session.now.projections.items in
    let u = c.in-Err.underivable in
    let told = subst₂ (λ (x : List Projection_data) (own : List (Option Machine_data)). (u.fault ≡ search.NoMemory) ⊎ IsUnderivable c.number.result (machines_of own x) x u.role u.fault)
    c.as_slice.ensures.value (c.as_slice-own.ensures.value ∙ ap (λ (x : Document_data). x.machines) c.document.view_is) c.in-Err.ensures.err in
    subst₂ (λ (z : List Machine_data) (bound : ℕ). (u.fault ≡ search.NoMemory) ⊎ IsUnderivable bound z ps u.role u.fault) (sym c.requires.has.machines_are) c.number.ensures.number told

pub returns-in-Ok : goal.returns-in-Ok
returns-in-Ok c =
    let ps = c.args.session.now.projections.items in
    let ms = c.args.session.now.machines.items in
    let ds = c.in-Ok.derivations.items in
    let told = subst₂ (λ (x : List Projection_data) (own : List (Option Machine_data)). AreCanonical c.number.result (machines_of own x) x ds) c.as_slice.ensures.value
    (c.as_slice-own.ensures.value ∙ ap (λ (x : Document_data). x.machines) c.document.view_is) c.in-Ok.ensures.ok in
    let found = subst₂ (λ (z : List Machine_data) (bound : ℕ). AreCanonical bound z ps ds) (sym c.requires.has.machines_are) c.number.ensures.number told in
    IfOk-weaker c.explain_accepted.result _ _ (λ a h. h c.args.bound (subst (λ (z : List Derivation_data). AreCanonical c.args.bound ms ps z) (sym c.as_slice-in-Ok.ensures.value) found))
    c.explain_accepted.ensures
