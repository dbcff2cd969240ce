use Rattle.std.proofs.Common.{◌≡◌, ◌⊎◌, ◌∙◌, List, Option, ap, sym, subst₂}
use Rattle.rs_documents.specs.Data.{Document_data}
use Rattle.rs_model.specs.Data.{Machine_data}
use Rattle.rs_project.specs.Data.{Projection_data}
use Rattle.rs_safety.specs.Sessions.{IsSession}
use Rattle.rs_search.specs.declared.faults.SearchFault.TheVariants as search
use Rattle.rs_answers.specs.Derivations.{IsUnderivable}
use Rattle.rs_answers.specs.Machines.{machines_of}
use Rattle.rs_answers.proofs.Answering.{tells_no_derivation, tells_no_session}
use Rattle.rs_answers.proofs.Derivings.{session_has}
use Rattle.rs_answers.proofs.figures.session_figures.Goals as goal

pub returns-in_err-projections-clause-err : goal.returns-in_err-projections-clause-err
returns-in_err-projections-clause-err c =
    tells_no_session c.args.bound c.args.document.now c.in_err-projections.field-0.0 c.from_residual.result c.from_residual.ensures.1 c.in_err-projections.ensures.err

pub figures_of_roles-requires-clause-session : goal.figures_of_roles-requires-clause-session
figures_of_roles-requires-clause-session c =
    let d = c.args.document.now in
    let ps = c.in_ok-projections.projections.items in (
      d.protocol,
      subst₂ (λ (x : List Projection_data) (own : List (Option Machine_data)). IsSession d.protocol x (machines_of own x)) (sym c.as_slice.ensures.value)
          (sym (c.as_slice-own.ensures.value ∙ ap (λ (x : Document_data). x.machines) c.document.view_is))
          (session_has d ps (machines_of d.machines ps) c.requires.ready c.in_ok-projections.ensures.ok),
    )

pub returns-in_err-figures-clause-err : goal.returns-in_err-figures-clause-err
returns-in_err-figures-clause-err c =
    let d = c.args.document.now in
    let ps = c.in_ok-projections.projections.items in
    let u = c.in_err-figures.field-0.0 in
    tells_no_derivation c.args.bound d ps (machines_of d.machines ps) u c.from_residual-in_err-figures.result c.from_residual-in_err-figures.ensures.1 c.in_ok-projections.ensures.ok
    (subst₂ (λ (x : List Projection_data) (own : List (Option Machine_data)). (u.fault ≡ search.NoMemory) ⊎ IsUnderivable c.args.bound (machines_of own x) x u.role u.fault)
    c.as_slice.ensures.value (c.as_slice-own.ensures.value ∙ ap (λ (x : Document_data). x.machines) c.document.view_is) (rw c.number.ensures.number at c.in_err-figures.ensures.err))
