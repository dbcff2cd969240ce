use Rattle.std.proofs.Common.{rules, ◌≡◌, ◌∙◌, ℕ, ap, subst, subst₂}
use Rattle.rs_model.specs.Data.{Machine_data}
use Rattle.rs_model.specs.declared.limits.TheConstants.{MOST_BOUND}
use Rattle.rs_project.specs.Data.{Projection_data}
use Rattle.rs_search.specs.Canonical.{IsCanonical, IsNotFound, SearchRefuses}
use Rattle.rs_walk_texts.specs.Data.{WalkSource_data}
use Rattle.rs_reasons.proofs.underivable.with_greatest_text.Goals as goal

pub greatest_helps_text-requires-clause-found : goal.greatest_helps_text-requires-clause-found
greatest_helps_text-requires-clause-found c =
    let machine : c.source.inside.machine.now ≡ c.args.source.now.machine = ap (λ (x : WalkSource_data). x.machine) c.source.view_is in
    let above : c.projection.inside.machine ≡ c.args.source.now.projection.machine =
    ap (λ (x : Projection_data). x.machine) c.projection.view_is ∙ ap (λ (x : WalkSource_data). x.projection.machine) c.source.view_is in
    subst₂ (λ (x : Machine_data) (y : Machine_data). IsCanonical x y MOST_BOUND c.in-Ok.derivation) machine above c.in-Ok.ensures.ok

pub greatest_refuses_text-requires-clause-refused : goal.greatest_refuses_text-requires-clause-refused
greatest_refuses_text-requires-clause-refused c =
    let same : c.args.bound ≡ MOST_BOUND = search rules in
    subst (λ (z : ℕ). IsNotFound c.args.source.now.machine c.args.source.now.projection.machine z c.args.cut) same c.requires.refused

pub greatest_refuses_text-requires-in-Err-clause-refused : goal.greatest_refuses_text-requires-in-Err-clause-refused
greatest_refuses_text-requires-in-Err-clause-refused c =
    let machine : c.source.inside.machine.now ≡ c.args.source.now.machine = ap (λ (x : WalkSource_data). x.machine) c.source.view_is in
    let above : c.projection.inside.machine ≡ c.args.source.now.projection.machine =
    ap (λ (x : Projection_data). x.machine) c.projection.view_is ∙ ap (λ (x : WalkSource_data). x.projection.machine) c.source.view_is in
    subst₂ (λ (x : Machine_data) (y : Machine_data). SearchRefuses x y MOST_BOUND c.in-Err.fault) machine above c.in-Err.ensures.err
