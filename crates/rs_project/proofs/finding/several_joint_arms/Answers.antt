use Rattle.std.proofs.Common.{arith, ◌<◌, ℕ, [], List, map, length, get_or, ap, refl, subst, sym, ◌∙◌}
use Rattle.std.specs.List.{All}
use Rattle.std.proofs.lemmas.Option.{slice_get-get_or}
use Rattle.rs_model.specs.declared.graph.Arm.{Arm}
use Rattle.rs_model.specs.declared.values.Sort.TheVariants.{Unit as unit}
use Rattle.rs_graph.specs.Lists.{Among}
use Rattle.rs_project.specs.Marks.{Survey_data, IsTrueSurvey}
use Rattle.rs_project.specs.Numbered.{nexts_of}
use Rattle.rs_project.specs.Projection.{LabelChoice, choice_of, merged_choices}
use Rattle.rs_project.specs.Working.{ArmsFault, Discovers, FaultFrom, FindsFrom}
use Rattle.rs_project.proofs.Behind.{fault_behind, finds_behind, some_starts, starts_of, starts_within}
use Rattle.rs_project.proofs.Handed.{handed_on}
use Rattle.rs_project.proofs.Numbers.{among_choices, discovers_none, arm_more, same_more, arms_fault, taken_all}
use Rattle.rs_project.proofs.finding.several_joint_arms.Goals as goal

pub loop-choice-init : goal.loop-choice-init
loop-choice-init c =
    let P : List Arm → Type 0 = λ z. Discovers c.args.search.now.survey.protocol c.args.search.now.survey.role c.args.search.now.fronts c.args.talks.now [] c.args.search.now.fronts (nexts_of z) in
    record {
      survey = refl;
      discovers = subst P (sym c.in_ok-arms.ensures)
          (discovers_none c.args.search.now.survey.protocol c.args.search.now.survey.role c.args.search.now.fronts c.args.talks.now c.survey-survey.ensures.found);
      same = ap (λ (z : List Arm). map choice_of z) c.in_ok-arms.ensures;
    }

pub find-requires-clause-some : goal.find-requires-clause-some
find-requires-clause-some c =
    let pr = c.args.search.now.survey.protocol in
    let choices = c.as_slice-choice-items.result.now in
    let a : Arm = get_or choices c.loop-choice.choice-index record { label = record { 0 = 0 }; sort = unit; next = 0 } in
    let at = slice_get-get_or choices c.loop-choice.choice-index _ c.loop-choice-test.true in
    let same = ap (λ (z : List Arm). map choice_of z) c.as_slice-choice-items.ensures ∙ c.in_ok-choices.ensures
    ∙ ap (λ (z : Survey_data). merged_choices z.protocol c.args.talks.now) (c.survey.view_is ∙ c.survey-survey.ensures.survey) in
    let P : List LabelChoice → Type 0 = λ z. Among z (choice_of a) in
    some_starts pr c.args.talks.now c.as_slice.result.now (choice_of a)
    (c.as_slice.ensures ∙ c.in_ok-starts.ensures ∙ ap (λ (z : Survey_data). starts_of z.protocol c.args.talks.now a.label) (c.survey.view_is ∙ c.survey-survey.ensures.survey))
    (subst P same (among_choices choices c.loop-choice.choice-index a at))

pub find-requires-clause-starts : goal.find-requires-clause-starts
find-requires-clause-starts c =
    let choices = c.as_slice-choice-items.result.now in
    let a : Arm = get_or choices c.loop-choice.choice-index record { label = record { 0 = 0 }; sort = unit; next = 0 } in
    let P : List ℕ → Type 0 = λ z. All (λ s. s < length c.args.search.now.survey.protocol.nodes) z in
    let W : Survey_data → Type 0 = λ y. All (λ s. s < length y.protocol.nodes) c.as_slice.result.now in
    subst W (sym c.loop-choice.invariant.survey)
    (subst P (sym (c.as_slice.ensures ∙ c.in_ok-starts.ensures ∙ ap (λ (z : Survey_data). starts_of z.protocol c.args.talks.now a.label) (c.survey.view_is ∙ c.survey-survey.ensures.survey)))
    (starts_within c.args.search.now.survey.protocol c.args.talks.now a.label (subst IsTrueSurvey (c.survey.view_is ∙ c.survey-survey.ensures.survey) c.survey.invariant).well_formed))

pub returns-in_err-next-clause-err : goal.returns-in_err-next-clause-err
returns-in_err-next-clause-err c =
    let pr = c.args.search.now.survey.protocol in
    let role = c.args.search.now.survey.role in
    let talks = c.args.talks.now in
    let choices = c.as_slice-choice-items.result.now in
    let a : Arm = get_or choices c.loop-choice.choice-index record { label = record { 0 = 0 }; sort = unit; next = 0 } in
    let at = slice_get-get_or choices c.loop-choice.choice-index _ c.loop-choice-test.true in
    let same = ap (λ (z : List Arm). map choice_of z) c.as_slice-choice-items.ensures ∙ c.in_ok-choices.ensures
    ∙ ap (λ (z : Survey_data). merged_choices z.protocol c.args.talks.now) (c.survey.view_is ∙ c.survey-survey.ensures.survey) in
    let F : Survey_data → Type 0 = λ z. FaultFrom z.protocol z.role c.loop-choice.search.fronts c.as_slice.result.now c.in_err-next.field-0.0 in
    let Q : List LabelChoice → Type 0 = λ z. ArmsFault pr role c.args.search.now.fronts talks z c.in_err-next.field-0.0 in
    handed_on c.from_residual-in_err-next.result c.in_err-next.field-0.0 (λ e. ArmsFault pr role c.args.search.now.fronts talks (merged_choices pr talks) e)
    c.from_residual-in_err-next.ensures.1
    (subst Q same
    (arms_fault pr role c.args.search.now.fronts c.loop-choice.search.fronts talks choices c.loop-choice.choice-index a (nexts_of c.loop-choice.arms)
    at c.loop-choice.invariant.discovers c.in_err-next.field-0.0
    (fault_behind pr role c.loop-choice.search.fronts talks a.label c.as_slice.result.now
    (c.as_slice.ensures ∙ c.in_ok-starts.ensures ∙ ap (λ (z : Survey_data). starts_of z.protocol c.args.talks.now a.label) (c.survey.view_is ∙ c.survey-survey.ensures.survey)) c.in_err-next.field-0.0
    (subst F c.loop-choice.invariant.survey c.in_err-next.ensures.err))))

pub loop-choice-preserved : goal.loop-choice-preserved
loop-choice-preserved c =
    let pr = c.args.search.now.survey.protocol in
    let role = c.args.search.now.survey.role in
    let talks = c.args.talks.now in
    let choices = c.as_slice-choice-items.result.now in
    let a : Arm = get_or choices c.loop-choice.choice-index record { label = record { 0 = 0 }; sort = unit; next = 0 } in
    let at = slice_get-get_or choices c.loop-choice.choice-index _ c.loop-choice-test.true in
    let same = ap (λ (z : List Arm). map choice_of z) c.as_slice-choice-items.ensures ∙ c.in_ok-choices.ensures
    ∙ ap (λ (z : Survey_data). merged_choices z.protocol c.args.talks.now) (c.survey.view_is ∙ c.survey-survey.ensures.survey) in
    let F : Survey_data → Type 0 = λ z. FindsFrom z.protocol z.role c.loop-choice.search.fronts c.as_slice.result.now c.find.new.self.fronts c.in_ok-next.next in
    record {
      survey = c.find.ensures.survey ∙ c.loop-choice.invariant.survey;
      discovers = arm_more pr role c.args.search.now.survey c.args.search.now.fronts c.loop-choice.search.fronts c.find.new.self.fronts talks choices c.loop-choice.choice-index a
          c.loop-choice.arms c.push.new.self c.in_ok-next.next
          (subst IsTrueSurvey (c.survey.view_is ∙ c.survey-survey.ensures.survey) c.survey.invariant).survey same at c.in_ok-push.ensures.ok c.loop-choice.invariant.discovers
          (finds_behind pr role c.loop-choice.search.fronts talks a.label c.as_slice.result.now c.find.new.self.fronts c.in_ok-next.next
          (c.as_slice.ensures ∙ c.in_ok-starts.ensures ∙ ap (λ (z : Survey_data). starts_of z.protocol c.args.talks.now a.label) (c.survey.view_is ∙ c.survey-survey.ensures.survey))
          (subst F c.loop-choice.invariant.survey c.in_ok-next.ensures.ok));
      same = same_more choices c.loop-choice.choice-index a c.loop-choice.arms c.push.new.self c.in_ok-next.next at c.in_ok-push.ensures.ok c.loop-choice.invariant.same;
    }

pub returns-clause-ok : goal.returns-clause-ok
returns-clause-ok c =
    let pr = c.args.search.now.survey.protocol in
    let talks = c.args.talks.now in
    let same = ap (λ (z : List Arm). map choice_of z) c.as_slice-choice-items.ensures ∙ c.in_ok-choices.ensures
    ∙ ap (λ (z : Survey_data). merged_choices z.protocol c.args.talks.now) (c.survey.view_is ∙ c.survey-survey.ensures.survey) in
    let Q : List LabelChoice → Type 0 = λ z. Discovers pr c.args.search.now.survey.role c.args.search.now.fronts talks z c.loop-choice.search.fronts (nexts_of c.loop-choice.arms) in
    subst Q (taken_all c.as_slice-choice-items.result.now c.loop-choice.choice-index (let f = c.loop-choice-test.false in omega (arith, f)) ∙ same) c.loop-choice.invariant.discovers

pub returns-clause-choices : goal.returns-clause-choices
returns-clause-choices c =
    c.loop-choice.invariant.same ∙ taken_all c.as_slice-choice-items.result.now c.loop-choice.choice-index (let f = c.loop-choice-test.false in omega (arith, f))
    ∙ ap (λ (z : List Arm). map choice_of z) c.as_slice-choice-items.ensures ∙ c.in_ok-choices.ensures
    ∙ ap (λ (z : Survey_data). merged_choices z.protocol c.args.talks.now) (c.survey.view_is ∙ c.survey-survey.ensures.survey)
