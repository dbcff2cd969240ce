use Rattle.std.proofs.Common.{subst, sym, ◌≡◌, ap, ◌∙◌}
use Rattle.rs_project.specs.Marks.{HasUnreached, IsTrueSurvey, Survey_data}
use Rattle.rs_project.specs.Graph.{IsUnreached}
use Rattle.rs_project.proofs.Peels.{unreached_pass}
use Rattle.rs_project.proofs.rounds.may_go_round.Goals as goal

pub returns-then-not-sweep : goal.returns-then-not-sweep
returns-then-not-sweep c = λ _ n u.
    let passing : c.in_ok-left.left.items ≡ c.args.survey.now.passing = c.in_ok-left.ensures.items ∙ c.deref.ensures.value ∙ ap (λ (z : Survey_data). z.passing) c.survey.view_is in
    let D : Survey_data → Type 0 = λ z. HasUnreached z.protocol c.args.survey.now.role c.in_ok-left.left.items in
    let P : Survey_data → Type 0 = λ z. IsUnreached z.protocol c.args.survey.now.role n in
    let u' = subst P (sym c.survey.view_is) u in
    let has = c.sweep.ensures.unreached c.args.survey.now.role
    (subst D (sym c.survey.view_is)
    (unreached_pass c.args.survey.now.protocol c.args.survey.now.role c.args.survey.now c.in_ok-left.left.items (subst IsTrueSurvey c.survey.view_is c.survey.invariant).survey passing)) in
    c.sweep.ensures.none c.if-not-sweep.true n (has.whole n u')

pub returns : goal.returns
returns c = λ none n u.
    let passing : c.in_ok-left.left.items ≡ c.args.survey.now.passing = c.in_ok-left.ensures.items ∙ c.deref.ensures.value ∙ ap (λ (z : Survey_data). z.passing) c.survey.view_is in
    let D : Survey_data → Type 0 = λ z. HasUnreached z.protocol c.args.survey.now.role c.in_ok-left.left.items in
    let P : Survey_data → Type 0 = λ z. IsUnreached z.protocol c.args.survey.now.role n in
    let u' = subst P (sym c.survey.view_is) u in
    let has = c.sweep.ensures.unreached c.args.survey.now.role
    (subst D (sym c.survey.view_is)
    (unreached_pass c.args.survey.now.protocol c.args.survey.now.role c.args.survey.now c.in_ok-left.left.items (subst IsTrueSurvey c.survey.view_is c.survey.invariant).survey passing)) in
    c.sweep-2.ensures.none none n ((c.sweep-2.ensures.unreached c.args.survey.now.role has).whole n u')
