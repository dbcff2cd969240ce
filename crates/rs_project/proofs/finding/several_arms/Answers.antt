use Rattle.std.proofs.Common.{arith, ◌≡◌, ◌<◌, ◌∷◌, [], List, length, refl, map, Some, get_or, slice_get, ap, subst, sym, ◌∙◌}
use Rattle.std.proofs.lemmas.Option.{slice_get-get_or}
use Rattle.rs_model.specs.declared.graph.Arm.{Arm}
use Rattle.rs_model.specs.declared.values.Sort.TheVariants.{Unit as unit}
use Rattle.rs_model.specs.Data.{Protocol_data}
use Rattle.rs_project.specs.Marks.{IsTrueSurvey, Survey_data}
use Rattle.rs_project.specs.Numbered.{nexts_of}
use Rattle.rs_project.specs.Projection.{LabelChoice, choice_of, merged_choices}
use Rattle.rs_project.specs.Working.{ArmsFault, Discovers, FaultFrom, FindsFrom}
use Rattle.rs_project.proofs.Alone.{choices_in, next_in, start_alone}
use Rattle.rs_project.proofs.Behind.{fault_behind, finds_behind}
use Rattle.rs_project.proofs.Handed.{handed_on}
use Rattle.rs_project.proofs.Lists.{read_via}
use Rattle.rs_project.proofs.Numbers.{discovers_none, arm_more, same_more, arms_fault, taken_all}
use Rattle.rs_project.proofs.finding.several_arms.Goals as goal

pub loop-choice-init : goal.loop-choice-init
loop-choice-init c =
    let P : List Arm → Type 0 = λ z. Discovers c.args.search.now.survey.protocol c.args.search.now.survey.role c.args.search.now.fronts (c.args.talk ∷ []) [] c.args.search.now.fronts (nexts_of z) in
    record {
      survey = refl;
      discovers = subst P (sym c.in_ok-arms.ensures)
          (discovers_none c.args.search.now.survey.protocol c.args.search.now.survey.role c.args.search.now.fronts (c.args.talk ∷ []) c.survey-survey.ensures.found);
      same = ap (λ (z : List Arm). map choice_of z) c.in_ok-arms.ensures;
    }

pub find_from-requires : goal.find_from-requires
find_from-requires c =
    let a : Arm = get_or c.arms_in-choices.result.now c.loop-choice.choice-index record { label = record { 0 = 0 }; sort = unit; next = 0 } in
    let node = c.index.result.now in
    let here = read_via c.args.search.now.survey.protocol.nodes c.protocol.inside.nodes.items c.args.talk node
    (ap (λ (z : Protocol_data). z.nodes) c.protocol.view_is ∙ ap (λ (z : Survey_data). z.protocol.nodes) (c.survey.view_is ∙ c.survey-survey.ensures.survey)) c.requires.talk c.index.ensures in
    let P : List Arm → Type 0 = λ z. slice_get z c.loop-choice.choice-index ≡ Some a in
    let W : Survey_data → Type 0 = λ z. a.next < length z.protocol.nodes in
    record {
      start = subst W (sym c.loop-choice.invariant.survey)
          (next_in c.args.search.now.survey.protocol c.args.talk node c.loop-choice.choice-index a
          (subst IsTrueSurvey (c.survey.view_is ∙ c.survey-survey.ensures.survey) c.survey.invariant).well_formed here
          (subst P c.arms_in-choices.ensures (slice_get-get_or c.arms_in-choices.result.now c.loop-choice.choice-index _ c.loop-choice-test.true)) 0 0 (omega arith));
    }

pub returns-in_err-next-clause-err : goal.returns-in_err-next-clause-err
returns-in_err-next-clause-err c =
    let pr = c.args.search.now.survey.protocol in
    let role = c.args.search.now.survey.role in
    let talks = c.args.talk ∷ [] in
    let choices = c.arms_in-choices.result.now in
    let a : Arm = get_or choices c.loop-choice.choice-index record { label = record { 0 = 0 }; sort = unit; next = 0 } in
    let at = slice_get-get_or choices c.loop-choice.choice-index _ c.loop-choice-test.true in
    let node = c.index.result.now in
    let here = read_via pr.nodes c.protocol.inside.nodes.items c.args.talk node
    (ap (λ (z : Protocol_data). z.nodes) c.protocol.view_is ∙ ap (λ (z : Survey_data). z.protocol.nodes) (c.survey.view_is ∙ c.survey-survey.ensures.survey)) c.requires.talk c.index.ensures in
    let P : List Arm → Type 0 = λ z. slice_get z c.loop-choice.choice-index ≡ Some a in
    let starts = start_alone pr c.args.talk node c.loop-choice.choice-index a (subst IsTrueSurvey (c.survey.view_is ∙ c.survey-survey.ensures.survey) c.survey.invariant).well_formed here
    (subst P c.arms_in-choices.ensures at) in
    let same = ap (λ (z : List Arm). map choice_of z) c.arms_in-choices.ensures
    ∙ choices_in pr c.args.talk node (subst IsTrueSurvey (c.survey.view_is ∙ c.survey-survey.ensures.survey) c.survey.invariant).well_formed here in
    let F : Survey_data → Type 0 = λ z. FaultFrom z.protocol z.role c.loop-choice.search.fronts (a.next ∷ []) c.in_err-next.field-0.0 in
    let Q : List LabelChoice → Type 0 = λ z. ArmsFault pr role c.args.search.now.fronts talks z c.in_err-next.field-0.0 in
    handed_on c.from_residual-in_err-next.result c.in_err-next.field-0.0 (λ e. ArmsFault pr role c.args.search.now.fronts talks (merged_choices pr talks) e)
    c.from_residual-in_err-next.ensures.1
    (subst Q same
    (arms_fault pr role c.args.search.now.fronts c.loop-choice.search.fronts talks choices c.loop-choice.choice-index a (nexts_of c.loop-choice.arms)
    at c.loop-choice.invariant.discovers c.in_err-next.field-0.0
    (fault_behind pr role c.loop-choice.search.fronts talks a.label (a.next ∷ []) starts c.in_err-next.field-0.0 (subst F c.loop-choice.invariant.survey c.in_err-next.ensures.err))))

pub loop-choice-preserved : goal.loop-choice-preserved
loop-choice-preserved c =
    let pr = c.args.search.now.survey.protocol in
    let role = c.args.search.now.survey.role in
    let talks = c.args.talk ∷ [] in
    let choices = c.arms_in-choices.result.now in
    let a : Arm = get_or choices c.loop-choice.choice-index record { label = record { 0 = 0 }; sort = unit; next = 0 } in
    let at = slice_get-get_or choices c.loop-choice.choice-index _ c.loop-choice-test.true in
    let node = c.index.result.now in
    let here = read_via pr.nodes c.protocol.inside.nodes.items c.args.talk node
    (ap (λ (z : Protocol_data). z.nodes) c.protocol.view_is ∙ ap (λ (z : Survey_data). z.protocol.nodes) (c.survey.view_is ∙ c.survey-survey.ensures.survey)) c.requires.talk c.index.ensures in
    let P : List Arm → Type 0 = λ z. slice_get z c.loop-choice.choice-index ≡ Some a in
    let starts = start_alone pr c.args.talk node c.loop-choice.choice-index a (subst IsTrueSurvey (c.survey.view_is ∙ c.survey-survey.ensures.survey) c.survey.invariant).well_formed here
    (subst P c.arms_in-choices.ensures at) in
    let same = ap (λ (z : List Arm). map choice_of z) c.arms_in-choices.ensures
    ∙ choices_in pr c.args.talk node (subst IsTrueSurvey (c.survey.view_is ∙ c.survey-survey.ensures.survey) c.survey.invariant).well_formed here in
    let F : Survey_data → Type 0 = λ z. FindsFrom z.protocol z.role c.loop-choice.search.fronts (a.next ∷ []) c.find_from.new.self.fronts c.in_ok-next.next in
    record {
      survey = c.find_from.ensures.survey ∙ c.loop-choice.invariant.survey;
      discovers = arm_more pr role c.args.search.now.survey c.args.search.now.fronts c.loop-choice.search.fronts c.find_from.new.self.fronts talks choices c.loop-choice.choice-index a
          c.loop-choice.arms c.push.new.self c.in_ok-next.next
          (subst IsTrueSurvey (c.survey.view_is ∙ c.survey-survey.ensures.survey) c.survey.invariant).survey same at c.in_ok-push.ensures.ok c.loop-choice.invariant.discovers
          (finds_behind pr role c.loop-choice.search.fronts talks a.label (a.next ∷ []) c.find_from.new.self.fronts c.in_ok-next.next starts
          (subst F c.loop-choice.invariant.survey c.in_ok-next.ensures.ok));
      same = same_more choices c.loop-choice.choice-index a c.loop-choice.arms c.push.new.self c.in_ok-next.next at c.in_ok-push.ensures.ok c.loop-choice.invariant.same;
    }

pub returns-clause-ok : goal.returns-clause-ok
returns-clause-ok c =
    let pr = c.args.search.now.survey.protocol in
    let talks = c.args.talk ∷ [] in
    let node = c.index.result.now in
    let here = read_via pr.nodes c.protocol.inside.nodes.items c.args.talk node
    (ap (λ (z : Protocol_data). z.nodes) c.protocol.view_is ∙ ap (λ (z : Survey_data). z.protocol.nodes) (c.survey.view_is ∙ c.survey-survey.ensures.survey)) c.requires.talk c.index.ensures in
    let same = ap (λ (z : List Arm). map choice_of z) c.arms_in-choices.ensures
    ∙ choices_in pr c.args.talk node (subst IsTrueSurvey (c.survey.view_is ∙ c.survey-survey.ensures.survey) c.survey.invariant).well_formed here in
    let Q : List LabelChoice → Type 0 = λ z. Discovers pr c.args.search.now.survey.role c.args.search.now.fronts talks z c.loop-choice.search.fronts (nexts_of c.loop-choice.arms) in
    subst Q (taken_all c.arms_in-choices.result.now c.loop-choice.choice-index (let f = c.loop-choice-test.false in omega (arith, f)) ∙ same) c.loop-choice.invariant.discovers

pub returns-clause-choices : goal.returns-clause-choices
returns-clause-choices c =
    let pr = c.args.search.now.survey.protocol in
    let node = c.index.result.now in
    let here = read_via pr.nodes c.protocol.inside.nodes.items c.args.talk node
    (ap (λ (z : Protocol_data). z.nodes) c.protocol.view_is ∙ ap (λ (z : Survey_data). z.protocol.nodes) (c.survey.view_is ∙ c.survey-survey.ensures.survey)) c.requires.talk c.index.ensures in
    let same = ap (λ (z : List Arm). map choice_of z) c.arms_in-choices.ensures
    ∙ choices_in pr c.args.talk node (subst IsTrueSurvey (c.survey.view_is ∙ c.survey-survey.ensures.survey) c.survey.invariant).well_formed here in
    c.loop-choice.invariant.same ∙ taken_all c.arms_in-choices.result.now c.loop-choice.choice-index (let f = c.loop-choice-test.false in omega (arith, f)) ∙ same
