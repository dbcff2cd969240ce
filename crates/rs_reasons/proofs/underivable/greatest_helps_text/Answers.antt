use Rattle.std.proofs.Common.{◌≡◌, ◌++◌, ◌∙◌, ℕ, List, codes, ap, ap₂, sym, subst₂}
use Rattle.rs_explain.proofs.Existing.{canonical_helps}
use Rattle.rs_explain.specs.Explanations.{AGreaterBoundHelps}
use Rattle.rs_explain.specs.Walks.{IsFirstCutWalk, WalkStep_data}
use Rattle.rs_explain.specs.declared.explaining.Ending.TheVariants.{Cut}
use Rattle.rs_model.specs.Data.{Machine_data}
use Rattle.rs_model.specs.declared.limits.TheConstants.{MOST_BOUND}
use Rattle.rs_project.specs.Data.{Projection_data}
use Rattle.rs_safety.specs.declared.rooms.Figures.{Figures}
use Rattle.rs_search.specs.Candidates.{start_spot}
use Rattle.rs_text.specs.NamePlaces.{name_at}
use Rattle.rs_walk_texts.specs.Data.{WalkSource_data}
use Rattle.rs_reasons.specs.Underivable.{GreatestHelps, way_text, with_bound_line}
use Rattle.rs_reasons.proofs.LeastBound.{owes_few}
use Rattle.rs_reasons.proofs.Reasons.{mapped}
use Rattle.rs_reasons.proofs.underivable.greatest_helps_text.Goals as goal

pub explain_cut-requires-clause-helps : goal.explain_cut-requires-clause-helps
explain_cut-requires-clause-helps c =
    let machine : c.source.inside.machine.now ≡ c.args.source.now.machine = ap (λ (x : WalkSource_data). x.machine) c.source.view_is in
    let above : c.projection.inside.machine ≡ c.args.source.now.projection.machine =
    ap (λ (x : Projection_data). x.machine) c.projection.view_is ∙ ap (λ (x : WalkSource_data). x.projection.machine) c.source.view_is in
    subst₂ (λ (x : Machine_data) (y : Machine_data). AGreaterBoundHelps x y c.args.bound MOST_BOUND) (sym machine) (sym above)
    (canonical_helps c.args.source.now.machine c.args.source.now.projection.machine c.args.bound MOST_BOUND c.args.derivation.now c.requires.within c.requires.found)

pub figures_of-figures-requires : goal.figures_of-figures-requires
figures_of-figures-requires c = owes_few c.args.source.now.machine c.args.source.now.projection.machine c.args.derivation.now c.requires.ours c.requires.theirs c.requires.found

pub returns : goal.returns
returns c =
    let machine : c.source.inside.machine.now ≡ c.args.source.now.machine = ap (λ (x : WalkSource_data). x.machine) c.source.view_is in
    let above : c.projection.inside.machine ≡ c.args.source.now.projection.machine =
    ap (λ (x : Projection_data). x.machine) c.projection.view_is ∙ ap (λ (x : WalkSource_data). x.projection.machine) c.source.view_is in
    let s = c.args.source.now in
    mapped _ _ c.helped_text.result
    (λ lines e.
    GreatestHelps c.args.explanation.now c.requires.explained c.requires.hopeful c.args.derivation.now c.requires.found c.in_ok-steps.steps.items
    (subst₂ (λ (x : Machine_data) (y : Machine_data). IsFirstCutWalk x y c.args.bound MOST_BOUND (start_spot x y) c.in_ok-steps.steps.items) machine above c.in_ok-steps.ensures)
    (e
    ∙ ap₂ (λ (z : List WalkStep_data) (k : ℕ). way_text s c.args.bound z Cut ++ with_bound_line k (name_at s.names.roles s.machine.role.0 ++ codes " is accepted")) c.as_slice.ensures.value
    (ap (λ (z : Figures). z.owed) c.figures_of-figures.ensures))) c.helped_text.ensures
