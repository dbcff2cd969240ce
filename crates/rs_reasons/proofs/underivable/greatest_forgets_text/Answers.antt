use Rattle.std.proofs.Common.{◌≡◌, ◌∙◌, ap, subst₂}
use Rattle.rs_explain.specs.Forgetting.{IsForgetting}
use Rattle.rs_model.specs.Data.{Machine_data}
use Rattle.rs_model.specs.declared.limits.TheConstants.{MOST_BOUND}
use Rattle.rs_project.specs.Data.{Projection_data}
use Rattle.rs_walk_texts.specs.Data.{WalkSource_data}
use Rattle.rs_reasons.specs.Underivable.{GreatestForgets}
use Rattle.rs_reasons.proofs.Reasons.{mapped}
use Rattle.rs_reasons.proofs.underivable.greatest_forgets_text.Goals as goal

pub returns : goal.returns
returns c =
    let machine : c.source.inside.machine.now ≡ c.args.source.now.machine = ap (λ (x : WalkSource_data). x.machine) c.source.view_is in
    let above : c.projection.inside.machine ≡ c.args.source.now.projection.machine =
    ap (λ (x : Projection_data). x.machine) c.projection.view_is ∙ ap (λ (x : WalkSource_data). x.projection.machine) c.source.view_is in
    mapped _ _ c.round_text.result
    (λ lines e.
    GreatestForgets c.args.explanation.now c.requires.explained c.requires.hopeful c.args.node c.requires.forgets c.in_ok-forgetting.forgetting
    (subst₂ (λ (x : Machine_data) (y : Machine_data). IsForgetting x y MOST_BOUND c.args.node c.in_ok-forgetting.forgetting) machine above c.in_ok-forgetting.ensures) e) c.round_text.ensures
