-- The headline means one session.
use Rattle.std.proofs.Common.{◌≡◌, ℕ, List, length, subst, sym, ap, ◌∙◌}
use Rattle.rs_documents.proofs.Spelt.{one_session}
use Rattle.rs_model.specs.Data.{Protocol_data}
use Rattle.rs_project.specs.Numbered.{AreNumberedProjections}
use Rattle.rs_tool.specs.Headline.{SpellsSafeMachines}
use Rattle.rs_answers.specs.Machines.{machines_of}
use Rattle.rs_answers.proofs.EachRole.{chosen_size}
use Rattle.rs_answers.proofs.OneReason.{one_list}

pub one_session_shown : (bytes : List ℕ) (one other : SpellsSafeMachines bytes) → machines_of one.machines one.projections ≡ machines_of other.machines other.projections
one_session_shown bytes one other =
    let same = one_session bytes one.protocol other.protocol one.machines other.machines one.spells other.spells in
    let projected = subst (λ (p : Protocol_data). AreNumberedProjections p one.projections) same.0 one.projected in
    let projections = one_list other.protocol one.projections other.projections other.well_formed projected other.projected in
    ap (λ z. machines_of z one.projections) same.1 ∙ ap (machines_of other.machines) projections

pub one_machine_each : (bytes : List ℕ) (h : SpellsSafeMachines bytes) → length (machines_of h.machines h.projections) ≡ h.protocol.roles
one_machine_each bytes h = chosen_size h.machines h.projections (h.one_each ∙ sym h.projected.many) ∙ h.projected.many
