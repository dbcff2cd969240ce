use Rattle.std.proofs.Common.{◌≡◌, ◌⊎◌, ◌∙◌, List, Option, ap, sym, subst, subst₂}
use Rattle.rs_model.specs.Data.{Machine_data}
use Rattle.rs_documents.specs.Data.{Document_data}
use Rattle.rs_project.specs.Data.{Projection_data}
use Rattle.rs_safety.specs.Sessions.{IsSession}
use Rattle.rs_search.specs.declared.faults.SearchFault.TheVariants as search
use Rattle.rs_answers.specs.Derivations.{IsUnderivable}
use Rattle.rs_answers.specs.Sessions.{HasMachines, machines_of}
use Rattle.rs_answers.proofs.Answering.{tells_no_derivation, tells_no_session}
use Rattle.rs_answers.proofs.Derivings.{session_has}
use Rattle.rs_answers.proofs.derivations.derived_session.Goals as goal

pub returns-in_err-projections-clause-err : goal.returns-in_err-projections-clause-err
returns-in_err-projections-clause-err c =
    tells_no_session c.args.bound c.args.document.now c.in_err-projections.field-0.0 c.from_residual.result c.from_residual.ensures.1 c.in_err-projections.ensures.err

pub derivations_of-requires : goal.derivations_of-requires
derivations_of-requires c =
    let d = c.args.document.now in
    let ps = c.in_ok-projections.field-0.projections.items in
    let h = c.in_ok-projections.ensures.ok in
    record {
      session = (
        d.protocol,
        subst₂ (λ (x : List Projection_data) (own : List (Option Machine_data)). IsSession d.protocol x (machines_of own x)) (sym c.as_slice.ensures.value)
            (sym (c.as_slice-own.ensures.value ∙ ap (λ (x : Document_data). x.machines) c.document.view_is))
            (subst (λ (z : List Machine_data). IsSession d.protocol ps z) h.machines_are (session_has d ps c.in_ok-projections.field-0.machines.items c.requires.ready h)),
      );
    }

pub returns-in_err-derivations-clause-err : goal.returns-in_err-derivations-clause-err
returns-in_err-derivations-clause-err c =
    let d = c.args.document.now in
    let ps = c.in_ok-projections.field-0.projections.items in
    let h = c.in_ok-projections.ensures.ok in
    let u = c.in_err-derivations.field-0.0 in
    tells_no_derivation c.args.bound d ps (machines_of d.machines ps) u c.from_residual-in_err-derivations.result c.from_residual-in_err-derivations.ensures.1
    (subst (λ (z : List Machine_data). HasMachines d ps z) h.machines_are h)
    (subst₂ (λ (x : List Projection_data) (own : List (Option Machine_data)). (u.fault ≡ search.NoMemory) ⊎ IsUnderivable c.args.bound (machines_of own x) x u.role u.fault)
    c.as_slice.ensures.value (c.as_slice-own.ensures.value ∙ ap (λ (x : Document_data). x.machines) c.document.view_is) (rw c.number.ensures.number at c.in_err-derivations.ensures.err))

pub returns-clause-session : goal.returns-clause-session
returns-clause-session c =
    session_has c.args.document.now c.in_ok-projections.field-0.projections.items c.in_ok-projections.field-0.machines.items c.requires.ready c.in_ok-projections.ensures.ok
