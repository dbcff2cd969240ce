use Rattle.std.proofs.Common.{◌≡◌, ◌∙◌, ap, sym, subst}
use Rattle.std.specs.Prelude.{IfOk}
use Rattle.rs_project.specs.Data.{Projection_data}
use Rattle.rs_walk_texts.specs.Data.{WalkSource_data}
use Rattle.rs_reasons.specs.Underivable.{TellsWithin}
use Rattle.rs_reasons.proofs.LesserBounds.{accepts}
use Rattle.rs_reasons.proofs.lesser.within_text.Goals.{in-Ok+in_ok-text-in-Ok, in-Err}
use Rattle.rs_reasons.proofs.lesser.within_text.Goals as goal

pub returns : goal.returns
returns c =
    let machine : c.source.inside.machine.now ≡ c.args.source.now.machine = ap (λ (x : WalkSource_data). x.machine) c.source.view_is in
    let above : c.projection.inside.machine ≡ c.args.source.now.projection.machine =
    ap (λ (x : Projection_data). x.machine) c.projection.view_is ∙ ap (λ (x : WalkSource_data). x.projection.machine) c.source.view_is in
    elim c.match-search.branch [
      | in-Ok+in_ok-text-in-Ok w ↦
          subst (λ r. IfOk r (TellsWithin c.args.source.now c.args.bound)) (sym w.result-is)
          (accepts c.args.source.now c.args.bound _ _ _ _ machine above w.in-Ok.ensures.ok w.in_ok-text-in-Ok.ensures)
      | in-Err w ↦ subst (λ r. IfOk r (TellsWithin c.args.source.now c.args.bound)) (sym w.result-is) w.with_reason.ensures
    ]
