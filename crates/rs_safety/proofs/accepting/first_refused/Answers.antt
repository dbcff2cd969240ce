use Rattle.std.proofs.Common.{rules, ◌≡◌, ◌<◌, ap, sym, subst, ◌∙◌, Some}
use Rattle.rs_derive.specs.Derivations.{IsDerivation, IsProper, Remembers}
use Rattle.rs_derive.specs.Faults.{first_fault}
use Rattle.rs_model.specs.Data.{Machine_data}
use Rattle.rs_project.specs.Data.{Projection_data}
use Rattle.rs_safety.proofs.Accepts.{places, machine_proper, projection_proper, derived_on, first, all_derived}
use Rattle.rs_safety.proofs.accepting.first_refused.Goals as goal

pub check-requires-clause-sub : goal.check-requires-clause-sub
check-requires-clause-sub c =
    let at = places c.requires.session.0 c.args.projections.now c.args.machines.now c.args.derivations.now c.requires.session.1 c.requires.derivations c.loop-place.place
    c.index-machines-place.result c.index-projections-place.result c.index-derivations-place.result
    (search rules) c.index-machines-place.is c.index-projections-place.is c.index-derivations-place.is in
    machine_proper c.requires.session.0 c.args.projections.now c.args.machines.now c.requires.session.1 c.loop-place.place c.index-machines-place.result at.runs

pub check-requires-clause-above : goal.check-requires-clause-above
check-requires-clause-above c =
    let at = places c.requires.session.0 c.args.projections.now c.args.machines.now c.args.derivations.now c.requires.session.1 c.requires.derivations c.loop-place.place
    c.index-machines-place.result c.index-projections-place.result c.index-derivations-place.result
    (search rules) c.index-machines-place.is c.index-projections-place.is c.index-derivations-place.is in
    subst IsProper (sym (ap (λ (j : Projection_data). j.machine) c.projection.view_is))
    (projection_proper c.requires.session.0 c.args.projections.now c.args.machines.now c.requires.session.1 c.loop-place.place c.index-projections-place.result at.projects)

pub check-requires-clause-bound : goal.check-requires-clause-bound
check-requires-clause-bound c =
    let at = places c.requires.session.0 c.args.projections.now c.args.machines.now c.args.derivations.now c.requires.session.1 c.requires.derivations c.loop-place.place
    c.index-machines-place.result c.index-projections-place.result c.index-derivations-place.result
    (search rules) c.index-machines-place.is c.index-projections-place.is c.index-derivations-place.is in
    c.requires.derivations.bound c.loop-place.place c.index-derivations-place.result at.derives

pub check-requires-clause-nodes : goal.check-requires-clause-nodes
check-requires-clause-nodes c =
    let at = places c.requires.session.0 c.args.projections.now c.args.machines.now c.args.derivations.now c.requires.session.1 c.requires.derivations c.loop-place.place
    c.index-machines-place.result c.index-projections-place.result c.index-derivations-place.result
    (search rules) c.index-machines-place.is c.index-projections-place.is c.index-derivations-place.is in
    c.requires.derivations.bounded c.loop-place.place c.index-derivations-place.result at.derives

pub returns-in-Err-clause-some : goal.returns-in-Err-clause-some
returns-in-Err-clause-some c =
    let at = places c.requires.session.0 c.args.projections.now c.args.machines.now c.args.derivations.now c.requires.session.1 c.requires.derivations c.loop-place.place
    c.index-machines-place.result c.index-projections-place.result c.index-derivations-place.result
    (search rules) c.index-machines-place.is c.index-projections-place.is c.index-derivations-place.is in
    let P : Machine_data → Type 0 = λ z. first_fault c.index-derivations-place.result c.index-machines-place.result z ≡ Some c.in-Err.cause in
    first c.args.machines.now c.args.projections.now c.args.derivations.now c.loop-place.place c.index-machines-place.result c.index-projections-place.result c.index-derivations-place.result
    c.in-Err.cause c.loop-place.invariant at
    (subst P (ap (λ (j : Projection_data). j.machine) c.projection.view_is) c.in-Err.ensures.err)

pub loop-place-preserved : goal.loop-place-preserved
loop-place-preserved c =
    let at = places c.requires.session.0 c.args.projections.now c.args.machines.now c.args.derivations.now c.requires.session.1 c.requires.derivations c.loop-place.place
    c.index-machines-place.result c.index-projections-place.result c.index-derivations-place.result
    (search rules) c.index-machines-place.is c.index-projections-place.is c.index-derivations-place.is in
    let P : Machine_data → Type 0 = λ z. IsDerivation c.index-derivations-place.result c.index-machines-place.result z × Remembers c.index-derivations-place.result c.index-machines-place.result z in
    derived_on c.args.machines.now c.args.projections.now c.args.derivations.now c.loop-place.place c.index-machines-place.result c.index-projections-place.result c.index-derivations-place.result
    c.loop-place.invariant at
    (subst P (ap (λ (j : Projection_data). j.machine) c.projection.view_is) (c.in_default.ensures.derivation, c.in_default.ensures.remembers))

pub returns-clause-none : goal.returns-clause-none
returns-clause-none c = all_derived c.args.machines.now c.args.projections.now c.args.derivations.now c.loop-place.place c.loop-place.invariant (search rules) (search rules)
