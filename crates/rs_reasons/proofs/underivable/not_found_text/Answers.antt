use Rattle.std.proofs.Common.{◌≡◌, ◌∙◌, ap, sym, subst₂}
use Rattle.rs_explain.specs.Explanations.{IsExplanation}
use Rattle.rs_model.specs.Data.{Machine_data}
use Rattle.rs_project.specs.Data.{Projection_data}
use Rattle.rs_walk_texts.specs.Data.{WalkSource_data}
use Rattle.rs_reasons.specs.Underivable.{NoneHelps}
use Rattle.rs_reasons.proofs.Reasons.{mapped}
use Rattle.rs_reasons.proofs.underivable.not_found_text.Goals as goal

pub returns-then-is_hopeless : goal.returns-then-is_hopeless
returns-then-is_hopeless c =
    let machine : c.source.inside.machine.now ≡ c.args.source.now.machine = ap (λ (x : WalkSource_data). x.machine) c.source.view_is in
    let above : c.projection.inside.machine ≡ c.args.source.now.projection.machine =
    ap (λ (x : Projection_data). x.machine) c.projection.view_is ∙ ap (λ (x : WalkSource_data). x.projection.machine) c.source.view_is in
    mapped _ _ c.hopeless_text.result
    (λ lines e.
    NoneHelps c.in_ok-explanation.explanation
    (subst₂ (λ (x : Machine_data) (y : Machine_data). IsExplanation x y c.args.bound c.in_ok-explanation.explanation) machine above c.in_ok-explanation.ensures)
    (sym c.is_hopeless.ensures ∙ c.if-is_hopeless.true) e) c.hopeless_text.ensures
