use Rattle.std.proofs.Common.{◌∷◌, [], inl, ℕ, List, Some, refl, ap, subst, sym, ◌∙◌}
use Rattle.std.specs.List.{Contains}
use Rattle.rs_project.specs.Data.{Front_data}
use Rattle.rs_project.specs.Filing.{lone_front}
use Rattle.rs_project.specs.Graph.{Involves}
use Rattle.rs_project.specs.Marks.{IsTrueSurvey, Survey_data}
use Rattle.rs_project.specs.Projection.{Agree, merged_choices}
use Rattle.rs_project.specs.Working.{Discovers, HasShape, StateFault}
use Rattle.rs_project.proofs.Behind.{involved_within}
use Rattle.rs_project.proofs.Handed.{handed_on}
use Rattle.rs_project.proofs.Lists.{read_via}
use Rattle.rs_project.proofs.Steps.{lone_involved, lone_merges, state_fault, works_on}
use Rattle.rs_project.proofs.projecting.state_of.Goals as goal

pub lone_arms-requires : goal.lone_arms-requires
lone_arms-requires c =
    let f = c.index-as_slice-number.result in
    let here = read_via c.args.search.now.fronts c.as_slice.result.now c.args.number f c.as_slice.ensures c.requires.number c.index-as_slice-number.is
    ∙ ap (λ (z : Front_data). Some z) c.in-Some.ensures in
    record {
      talk = involved_within c.args.search.now.survey.protocol c.args.search.now.survey.role c.in-Some.talk
          (c.survey-survey.ensures.found.right c.args.number (lone_front c.in-Some.talk) c.in-Some.talk here (inl refl));
    }

pub returns-in_err-arms-clause-err : goal.returns-in_err-arms-clause-err
returns-in_err-arms-clause-err c =
    let pr = c.args.search.now.survey.protocol in
    let role = c.args.search.now.survey.role in
    let f = c.index-as_slice-number.result in
    let here = read_via c.args.search.now.fronts c.as_slice.result.now c.args.number f c.as_slice.ensures c.requires.number c.index-as_slice-number.is
    ∙ ap (λ (z : Front_data). Some z) c.in-Some.ensures in
    let known = subst IsTrueSurvey (c.survey.view_is ∙ c.survey-survey.ensures.survey) c.survey.invariant in
    let merges = lone_merges pr role c.in-Some.talk known.well_formed (c.survey-survey.ensures.found.right c.args.number (lone_front c.in-Some.talk) c.in-Some.talk here (inl refl)) in
    handed_on c.from_residual.result c.in_err-arms.field-0.0 (λ e. StateFault pr role c.args.search.now.fronts c.args.number e)
    c.from_residual.ensures.1
    (state_fault pr role c.args.search.now.fronts c.args.number (lone_front c.in-Some.talk) (c.in-Some.talk ∷ []) refl here merges c.in_err-arms.field-0.0 c.in_err-arms.ensures.err)

pub act_of-requires-clause-involved : goal.act_of-requires-clause-involved
act_of-requires-clause-involved c = λ t m.
    let f = c.index-as_slice-number.result in
    let here = read_via c.args.search.now.fronts c.as_slice.result.now c.args.number f c.as_slice.ensures c.requires.number c.index-as_slice-number.is
    ∙ ap (λ (z : Front_data). Some z) c.in-Some.ensures in
    let i = c.survey-survey.ensures.found.right c.args.number (lone_front c.in-Some.talk) c.in-Some.talk here (inl refl) in
    let P : Survey_data → Type 0 = λ z. Involves z.protocol z.role t in
    subst P (sym (c.survey.view_is ∙ c.survey-survey.ensures.survey)) (lone_involved c.args.search.now.survey.protocol c.args.search.now.survey.role c.in-Some.talk t i m)

pub act_of-requires-clause-agree : goal.act_of-requires-clause-agree
act_of-requires-clause-agree c =
    let f = c.index-as_slice-number.result in
    let here = read_via c.args.search.now.fronts c.as_slice.result.now c.args.number f c.as_slice.ensures c.requires.number c.index-as_slice-number.is
    ∙ ap (λ (z : Front_data). Some z) c.in-Some.ensures in
    let i = c.survey-survey.ensures.found.right c.args.number (lone_front c.in-Some.talk) c.in-Some.talk here (inl refl) in
    let known = subst IsTrueSurvey (c.survey.view_is ∙ c.survey-survey.ensures.survey) c.survey.invariant in
    let P : Survey_data → Type 0 = λ z. (one other : ℕ) → Contains (c.in-Some.talk ∷ []) one → Contains (c.in-Some.talk ∷ []) other → Agree z.protocol z.role one other in
    subst P (sym (c.survey.view_is ∙ c.survey-survey.ensures.survey)) (lone_merges c.args.search.now.survey.protocol c.args.search.now.survey.role c.in-Some.talk known.well_formed i).agree

pub returns-in-Some-clause-ok : goal.returns-in-Some-clause-ok
returns-in-Some-clause-ok c =
    let pr = c.args.search.now.survey.protocol in
    let role = c.args.search.now.survey.role in
    let f = c.index-as_slice-number.result in
    let here = read_via c.args.search.now.fronts c.as_slice.result.now c.args.number f c.as_slice.ensures c.requires.number c.index-as_slice-number.is
    ∙ ap (λ (z : Front_data). Some z) c.in-Some.ensures in
    let i = c.survey-survey.ensures.found.right c.args.number (lone_front c.in-Some.talk) c.in-Some.talk here (inl refl) in
    let known = subst IsTrueSurvey (c.survey.view_is ∙ c.survey-survey.ensures.survey) c.survey.invariant in
    let P : Survey_data → Type 0 = λ z. HasShape z.protocol z.role (c.in-Some.talk ∷ []) c.act_of.result in
    let Q : List ℕ → Type 0 = λ z. Discovers pr role c.args.search.now.fronts (c.in-Some.talk ∷ []) (merged_choices pr (c.in-Some.talk ∷ [])) c.lone_arms.new.search.fronts z in
    works_on pr role c.args.search.now.fronts c.lone_arms.new.search.fronts c.args.number (lone_front c.in-Some.talk) (c.in-Some.talk ∷ []) c.act_of.result refl here
    (lone_merges pr role c.in-Some.talk known.well_formed i)
    (subst Q (sym c.act_of.ensures.nexts) c.in_ok-arms.ensures.ok) (subst P (c.survey.view_is ∙ c.survey-survey.ensures.survey) c.act_of.ensures.shape)
