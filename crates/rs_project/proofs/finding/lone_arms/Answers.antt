use Rattle.std.proofs.Common.{arith, ◌≡◌, List, length, map, Some, get_or, slice_get, ap, subst, ◌∙◌, ◌≤◌, ◌<◌}
use Rattle.rs_model.specs.declared.graph.Arm.{Arm}
use Rattle.rs_model.specs.declared.values.Sort.TheVariants.{Unit as unit}
use Rattle.rs_model.specs.Data.{Protocol_data}
use Rattle.rs_project.specs.Marks.{IsTrueSurvey, Survey_data}
use Rattle.rs_project.specs.Projection.{choice_of}
use Rattle.rs_project.proofs.Alone.{choices_in, first_arm, only_arm, start_alone}
use Rattle.rs_project.proofs.Lists.{read_via}
use Rattle.rs_project.proofs.finding.lone_arms.Goals as goal

pub only_arm-requires-clause-only : goal.only_arm-requires-clause-only
only_arm-requires-clause-only c =
    let blank : Arm = record { label = record { 0 = 0 }; sort = unit; next = 0 } in
    let arms = c.arms_in.result.now in
    let a : Arm = get_or arms 0 blank in
    let some : 1 ≤ length arms = (let h = c.in-len1.len_at_least in omega (arith, h)) in
    let few : length arms < 2 = (let h = c.in-len1.len_below in omega (arith, h)) in
    let node = c.index.result.now in
    let here = read_via c.args.search.now.survey.protocol.nodes c.protocol.inside.nodes.items c.args.talk node
    (ap (λ (z : Protocol_data). z.nodes) c.protocol.view_is ∙ ap (λ (z : Survey_data). z.protocol.nodes) (c.survey.view_is ∙ c.survey-survey.ensures.survey)) c.requires.talk c.index.ensures in
    let P : List Arm → Type 0 = λ z. slice_get z 0 ≡ Some a in
    record {
      led = start_alone c.args.search.now.survey.protocol c.args.talk node 0 a (subst IsTrueSurvey (c.survey.view_is ∙ c.survey-survey.ensures.survey) c.survey.invariant).well_formed here
          (subst P c.arms_in.ensures (first_arm arms blank some));
      alone = ap (λ (z : List Arm). map choice_of z) (only_arm arms blank some few ∙ c.arms_in.ensures)
          ∙ choices_in c.args.search.now.survey.protocol c.args.talk node (subst IsTrueSurvey (c.survey.view_is ∙ c.survey-survey.ensures.survey) c.survey.invariant).well_formed here;
    }
