use Rattle.std.proofs.Common.{arith, ◌≤◌, inr, ℕ, Option, MatchOption, refl, subst, subst₂}
use Rattle.rs_model.specs.Data.{Protocol_data}
use Rattle.rs_model.specs.declared.graph.Role.{Role}
use Rattle.rs_project.specs.Graph.{IsUnreached}
use Rattle.rs_project.specs.Refusals.{NoneUnreached}
use Rattle.rs_project.specs.Numbered.{IsNumberedProjection}
use Rattle.rs_project.proofs.Machines.{projection_machine}
use Rattle.rs_project.proofs.projecting.project.Goals as goal

pub returns-in-Some-clause-err : goal.returns-in-Some-clause-err
returns-in-Some-clause-err c =
    let sv = c.in_ok-known.known.survey in
    let P : Option ℕ → Type 0 = λ o. MatchOption o (NoneUnreached sv.protocol sv.role) (λ node. IsUnreached sv.protocol sv.role node × ((n : ℕ) → IsUnreached sv.protocol sv.role n → node ≤ n)) in
    let Q : Protocol_data → Role → Type 0 = λ y z. IsUnreached y z c.in-Some.node × ((n : ℕ) → IsUnreached y z n → c.in-Some.node ≤ n) in
    let h = subst₂ Q c.in_ok-known.ensures.protocol c.in_ok-known.ensures.role (subst P c.in-Some.is c.in_ok-node.ensures) in
    inr (refl, h.0, h.1)

pub returns-clause-ok : goal.returns-clause-ok
returns-clause-ok c =
    let P : Protocol_data → Role → Type 0 = λ y z. IsNumberedProjection y z c.in_ok-projection.projection in
    subst₂ P c.in_ok-known.ensures.protocol c.in_ok-known.ensures.role c.in_ok-projection.ensures.ok

pub returns-clause-machine : goal.returns-clause-machine
returns-clause-machine c =
    let P : Protocol_data → Role → Type 0 = λ y z. IsNumberedProjection y z c.in_ok-projection.projection in
    let h = subst₂ P c.in_ok-known.ensures.protocol c.in_ok-known.ensures.role c.in_ok-projection.ensures.ok in
    projection_machine c.args.protocol.now c.args.role c.in_ok-projection.projection c.requires.well_formed c.requires.role h.is_projection

pub returns-clause-bounded : goal.returns-clause-bounded
returns-clause-bounded c =
    let f = c.in_ok-projection.ensures.ok.bounded in
    let a = c.in_ok-projection.ensures.ok.is_projection.all in
    omega arith
