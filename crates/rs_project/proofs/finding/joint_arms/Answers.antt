use Rattle.std.proofs.Common.{rules, ◌<◌, ℕ, List, inl, refl, length, sym, subst, ◌∙◌}
use Rattle.std.specs.List.{All}
use Rattle.rs_graph.specs.Lists.{Among}
use Rattle.rs_project.specs.Marks.{IsTrueSurvey}
use Rattle.rs_project.specs.Projection.{LabelChoice, choice_of}
use Rattle.rs_project.specs.Working.{IsOneChoice}
use Rattle.rs_project.proofs.Behind.{some_starts, starts_within}
use Rattle.rs_project.proofs.finding.joint_arms.Goals as goal

pub joint_arm-requires-clause-some : goal.joint_arm-requires-clause-some
joint_arm-requires-clause-some c =
    let pr = c.args.search.now.survey.protocol in
    let choice = choice_of c.in-Some.one.arm in
    let is : IsOneChoice pr c.args.talks.now c.as_slice.result.now choice = search rules in
    let P : List LabelChoice → Type 0 = λ z. Among z choice in
    some_starts pr c.args.talks.now c.as_slice.result.now choice is.led (subst P is.alone (inl refl))

pub joint_arm-requires-clause-starts : goal.joint_arm-requires-clause-starts
joint_arm-requires-clause-starts c =
    let pr = c.args.search.now.survey.protocol in
    let choice = choice_of c.in-Some.one.arm in
    let is : IsOneChoice pr c.args.talks.now c.as_slice.result.now choice = search rules in
    let P : List ℕ → Type 0 = λ z. All (λ s. s < length pr.nodes) z in
    subst P (sym is.led) (starts_within pr c.args.talks.now choice.label (subst IsTrueSurvey (c.survey.view_is ∙ c.survey-survey.ensures.survey) c.survey.invariant).well_formed)
