use Rattle.std.proofs.Common.{◌≡◌, ◌⊎◌, ◌∙◌, inr, ap, subst, sym}
use Rattle.std.specs.Prelude.{IfErr}
use Rattle.rs_documents.specs.Data.{Document_data}
use Rattle.rs_documents.specs.Ready.{AreShort, DocumentIsReady}
use Rattle.rs_model.specs.Data.{Protocol_data}
use Rattle.rs_answers.specs.Refusals.{HasNoSession}
use Rattle.rs_answers.specs.Sessions.{HasMachines, machines_of}
use Rattle.rs_answers.specs.declared.refusals.Refusal.TheVariants as refusal
use Rattle.rs_answers.proofs.Answering.{has_own, ill_own, tells_ill_formed, tells_no_projection}
use Rattle.rs_answers.proofs.EachRole.{all_small}
use Rattle.rs_answers.proofs.sessions.session_projections.Goals as goal

pub returns-in_err-well_formed-clause-err : goal.returns-in_err-well_formed-clause-err
returns-in_err-well_formed-clause-err c =
    subst (λ d. IfErr c.from_residual.result (λ why. (why ≡ refusal.NoMemory) ⊎ HasNoSession d why)) c.document.view_is
    (tells_ill_formed _ c.in_err-well_formed.field-0.0 c.from_residual.result c.from_residual.ensures.1 c.in_err-well_formed.ensures.err)

pub returns-in_err-projections-clause-err : goal.returns-in_err-projections-clause-err
returns-in_err-projections-clause-err c =
    subst (λ d. IfErr c.from_residual-in_err-projections.result (λ why. (why ≡ refusal.NoMemory) ⊎ HasNoSession d why)) c.document.view_is
    (tells_no_projection _ c.in_err-projections.field-0.0 c.from_residual-in_err-projections.result c.from_residual-in_err-projections.ensures.1 c.in_ok-well_formed.ensures.none
    c.in_err-projections.ensures.err)

pub first_refusal-requires : goal.first_refusal-requires
first_refusal-requires c =
    all_small c.as_slice.result.now (subst AreShort (sym (c.as_slice.ensures.value ∙ ap (λ (d : Document_data). d.machines) c.document.view_is)) c.requires.short)

pub returns-in-Some-clause-err : goal.returns-in-Some-clause-err
returns-in-Some-clause-err c =
    subst (λ (d : Document_data). (refusal.IllMachine c.in-Some.role c.in-Some.fault ≡ refusal.NoMemory) ⊎ HasNoSession d (refusal.IllMachine c.in-Some.role c.in-Some.fault)) c.document.view_is
    (inr (ill_own _ c.in_ok-projections.projections.items c.as_slice.result.now c.protocol.inside.roles c.in-Some.role c.in-Some.fault
    (subst DocumentIsReady (sym c.document.view_is) c.requires) c.in_ok-well_formed.ensures.none c.in_ok-projections.ensures.ok c.as_slice.ensures.value
    (ap (λ (p : Protocol_data). p.roles) c.protocol.view_is) c.in-Some.ensures.some))

pub returns-in-None-clause-ok : goal.returns-in-None-clause-ok
returns-in-None-clause-ok c =
    subst (λ (d : Document_data). HasMachines d c.in_ok-projections.projections.items (machines_of d.machines c.in_ok-projections.projections.items)) c.document.view_is
    (has_own _ c.in_ok-projections.projections.items c.as_slice.result.now c.protocol.inside.roles (subst DocumentIsReady (sym c.document.view_is) c.requires) c.in_ok-well_formed.ensures.none
    c.in_ok-projections.ensures.ok c.as_slice.ensures.value (ap (λ (p : Protocol_data). p.roles) c.protocol.view_is) c.in-None.ensures.none)
