use Rattle.std.proofs.Common.{◌≡◌, ◌∙◌, ℕ, ap, sym, subst}
use Rattle.std.proofs.lemmas.Option.{same_Some}
use Rattle.rs_derive.specs.Derivations.{IsProper}
use Rattle.rs_improve.specs.Improved.{IsImproved, RefusesToImprove}
use Rattle.rs_improve.specs.declared.improving.ImproveFault.TheVariants.{TooLarge}
use Rattle.rs_model.specs.Data.{Machine_data}
use Rattle.rs_project.specs.Data.{Projection_data}
use Rattle.rs_safety.proofs.Accepts.{gets}
use Rattle.rs_answers.proofs.improving.improve_projection.Goals as goal

pub improve-requires-clause-proper : goal.improve-requires-clause-proper
improve-requires-clause-proper c =
    let at = gets c.args.projections.now c.args.place c.index-projections-place.result c.requires.known c.index-projections-place.is in
    subst IsProper (sym (ap (λ (j : Projection_data). j.machine) c.projection.view_is)) (c.requires.proper c.index-projections-place.result at).proper

pub unreachable-requires : goal.unreachable-requires
unreachable-requires c =
    let at = gets c.args.projections.now c.args.place c.index-projections-place.result c.requires.known c.index-projections-place.is in
    let told : RefusesToImprove c.projection.inside.machine c.number.result c.in-Err-TooLarge.field-0 = c.in-Err-TooLarge.ensures.fault in
    let large : RefusesToImprove c.projection.inside.machine c.number.result TooLarge = subst (RefusesToImprove c.projection.inside.machine c.number.result) c.in-Err-TooLarge.field-0-is told in
    let bounded : RefusesToImprove c.projection.inside.machine c.args.bound TooLarge = subst (λ (b : ℕ). RefusesToImprove c.projection.inside.machine b TooLarge) c.number.ensures.number large in
    (c.requires.proper c.index-projections-place.result at).few
    (subst (λ (m : Machine_data). RefusesToImprove m c.args.bound TooLarge) (ap (λ (j : Projection_data). j.machine) c.projection.view_is) bounded)

pub returns-in-Ok : goal.returns-in-Ok
returns-in-Ok c = λ j at.
    let here = gets c.args.projections.now c.args.place c.index-projections-place.result c.requires.known c.index-projections-place.is in
    let same : c.index-projections-place.result ≡ j = same_Some c.index-projections-place.result j (sym here ∙ at) in
    subst (λ (m : Machine_data). IsImproved m c.args.bound c.args.swaps c.in-Ok.improved) (ap (λ (x : Projection_data). x.machine) (c.projection.view_is ∙ same))
    (subst (λ (b : ℕ). IsImproved c.projection.inside.machine b c.args.swaps c.in-Ok.improved) c.number.ensures.number c.in-Ok.ensures.improved)
