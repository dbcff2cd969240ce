use Rattle.std.proofs.Common.{◌≡◌, ◌<◌, ℕ, List, Option, MatchOption, length, refl, ap, subst, sym, ◌∙◌}
use Rattle.std.specs.List.{All, Contains}
use Rattle.rs_project.specs.Clashes.{AllAgree, HasEndAlone}
use Rattle.rs_project.specs.Data.{Front_data}
use Rattle.rs_project.specs.Graph.{Involves}
use Rattle.rs_graph.specs.Lists.{Among}
use Rattle.rs_project.specs.Marks.{IsTrueSurvey, Survey_data}
use Rattle.rs_project.specs.Projection.{Agree, merged_choices}
use Rattle.rs_project.specs.Refusals.{FirstClash}
use Rattle.rs_project.specs.declared.clashes.Clash.{Clash}
use Rattle.rs_project.specs.Working.{Discovers, HasShape, StateFault}
use Rattle.rs_project.proofs.Handed.{handed_on}
use Rattle.rs_project.proofs.Notes.{noted_none}
use Rattle.rs_project.proofs.Lists.{read_via}
use Rattle.rs_project.proofs.Steps.{talks_within, state_fault, works_on, merges_at}
use Rattle.rs_project.proofs.projecting.joint_state.Goals as goal

pub first_clash-requires-clause-talks : goal.first_clash-requires-clause-talks
first_clash-requires-clause-talks c =
    let pr = c.args.search.now.survey.protocol in
    let role = c.args.search.now.survey.role in
    let f = c.index-as_slice-number.result in
    let here = read_via c.args.search.now.fronts c.as_slice.result.now c.args.number f c.as_slice.ensures c.requires.number c.index-as_slice-number.is in
    let P : Survey_data → Type 0 = λ z. All (λ t. t < length z.protocol.nodes) f.talks in
    subst P (sym (c.survey.view_is ∙ c.survey-survey.ensures.survey)) (talks_within pr role f.talks (λ t m. c.survey-survey.ensures.found.right c.args.number f t here m))

pub joint_arms-requires : goal.joint_arms-requires
joint_arms-requires c =
    let pr = c.args.search.now.survey.protocol in
    let role = c.args.search.now.survey.role in
    let f = c.index-as_slice-number.result in
    let here = read_via c.args.search.now.fronts c.as_slice.result.now c.args.number f c.as_slice.ensures c.requires.number c.index-as_slice-number.is in
    let talks : c.as_slice-3.result.now ≡ f.talks = c.as_slice-3.ensures ∙ c.in_ok-talks.ensures.ok ∙ c.as_slice-2.ensures ∙ ap (λ (z : Front_data). z.talks) c.front.view_is in
    let P : List ℕ → Type 0 = λ z. All (λ t. t < length pr.nodes) z in
    record { talks = subst P (sym talks) (talks_within pr role f.talks (λ t m. c.survey-survey.ensures.found.right c.args.number f t here m)) }

pub act_of-requires-clause-involved : goal.act_of-requires-clause-involved
act_of-requires-clause-involved c = λ t m.
    let pr = c.args.search.now.survey.protocol in
    let role = c.args.search.now.survey.role in
    let f = c.index-as_slice-number.result in
    let here = read_via c.args.search.now.fronts c.as_slice.result.now c.args.number f c.as_slice.ensures c.requires.number c.index-as_slice-number.is in
    let talks : c.as_slice-4.result.now ≡ f.talks = c.as_slice-4.ensures ∙ c.in_ok-talks.ensures.ok ∙ c.as_slice-2.ensures ∙ ap (λ (z : Front_data). z.talks) c.front.view_is in
    let P : List ℕ → Type 0 = λ z. Among z t in
    let Q : Survey_data → Type 0 = λ z. Involves z.protocol z.role t in
    subst Q (sym (c.survey.view_is ∙ c.survey-survey.ensures.survey)) (c.survey-survey.ensures.found.right c.args.number f t here (subst P talks m))

pub act_of-requires-clause-agree : goal.act_of-requires-clause-agree
act_of-requires-clause-agree c = λ one other a b.
    let pr = c.args.search.now.survey.protocol in
    let role = c.args.search.now.survey.role in
    let f = c.index-as_slice-number.result in
    let here = read_via c.args.search.now.fronts c.as_slice.result.now c.args.number f c.as_slice.ensures c.requires.number c.index-as_slice-number.is in
    let talks : c.as_slice-4.result.now ≡ f.talks = c.as_slice-4.ensures ∙ c.in_ok-talks.ensures.ok ∙ c.as_slice-2.ensures ∙ ap (λ (z : Front_data). z.talks) c.front.view_is in
    let C : Survey_data → Type 0 = λ z. AllAgree z.protocol z.role f.talks (length f.talks) × HasEndAlone f in
    let merges = merges_at pr role role c.args.search.now.fronts c.args.number f refl
    (subst IsTrueSurvey (c.survey.view_is ∙ c.survey-survey.ensures.survey) c.survey.invariant).well_formed c.survey-survey.ensures.found here
    (subst C (c.survey.view_is ∙ c.survey-survey.ensures.survey) (noted_none c.in_ok-found.found _ _ c.in_default.is c.in_ok-found.ensures)) in
    let P : List ℕ → Type 0 = λ z. Contains z one in
    let Q : List ℕ → Type 0 = λ z. Contains z other in
    let R : Survey_data → Type 0 = λ z. Agree z.protocol z.role one other in
    subst R (sym (c.survey.view_is ∙ c.survey-survey.ensures.survey)) (merges.agree one other (subst P talks a) (subst Q talks b))

pub returns-in_err-arms-clause-err : goal.returns-in_err-arms-clause-err
returns-in_err-arms-clause-err c =
    let pr = c.args.search.now.survey.protocol in
    let role = c.args.search.now.survey.role in
    let f = c.index-as_slice-number.result in
    let here = read_via c.args.search.now.fronts c.as_slice.result.now c.args.number f c.as_slice.ensures c.requires.number c.index-as_slice-number.is in
    let talks : c.as_slice-3.result.now ≡ f.talks = c.as_slice-3.ensures ∙ c.in_ok-talks.ensures.ok ∙ c.as_slice-2.ensures ∙ ap (λ (z : Front_data). z.talks) c.front.view_is in
    let C : Survey_data → Type 0 = λ z. AllAgree z.protocol z.role f.talks (length f.talks) × HasEndAlone f in
    let merges = merges_at pr role role c.args.search.now.fronts c.args.number f refl
    (subst IsTrueSurvey (c.survey.view_is ∙ c.survey-survey.ensures.survey) c.survey.invariant).well_formed c.survey-survey.ensures.found here
    (subst C (c.survey.view_is ∙ c.survey-survey.ensures.survey) (noted_none c.in_ok-found.found _ _ c.in_default.is c.in_ok-found.ensures)) in
    handed_on c.from_residual-in_err-arms.result c.in_err-arms.field-0.0 (λ e. StateFault pr role c.args.search.now.fronts c.args.number e)
    c.from_residual-in_err-arms.ensures.1
    (state_fault pr role c.args.search.now.fronts c.args.number f c.as_slice-3.result.now talks here merges c.in_err-arms.field-0.0 c.in_err-arms.ensures.err)

pub returns-clause-ok : goal.returns-clause-ok
returns-clause-ok c =
    let pr = c.args.search.now.survey.protocol in
    let role = c.args.search.now.survey.role in
    let f = c.index-as_slice-number.result in
    let here = read_via c.args.search.now.fronts c.as_slice.result.now c.args.number f c.as_slice.ensures c.requires.number c.index-as_slice-number.is in
    let talks : c.as_slice-3.result.now ≡ f.talks = c.as_slice-3.ensures ∙ c.in_ok-talks.ensures.ok ∙ c.as_slice-2.ensures ∙ ap (λ (z : Front_data). z.talks) c.front.view_is in
    let C : Survey_data → Type 0 = λ z. AllAgree z.protocol z.role f.talks (length f.talks) × HasEndAlone f in
    let merges = merges_at pr role role c.args.search.now.fronts c.args.number f refl
    (subst IsTrueSurvey (c.survey.view_is ∙ c.survey-survey.ensures.survey) c.survey.invariant).well_formed c.survey-survey.ensures.found here
    (subst C (c.survey.view_is ∙ c.survey-survey.ensures.survey) (noted_none c.in_ok-found.found _ _ c.in_default.is c.in_ok-found.ensures)) in
    let talks-3 : c.as_slice-4.result.now ≡ f.talks = c.as_slice-4.ensures ∙ c.in_ok-talks.ensures.ok ∙ c.as_slice-2.ensures ∙ ap (λ (z : Front_data). z.talks) c.front.view_is in
    let P : Survey_data → Type 0 = λ z. HasShape z.protocol z.role c.as_slice-4.result.now c.act_of.result in
    let R : List ℕ → Type 0 = λ z. HasShape pr role z c.act_of.result in
    let Q : List ℕ → Type 0 = λ z. Discovers pr role c.args.search.now.fronts c.as_slice-3.result.now (merged_choices pr c.as_slice-3.result.now) c.joint_arms.new.search.fronts z in
    works_on pr role c.args.search.now.fronts c.joint_arms.new.search.fronts c.args.number f c.as_slice-3.result.now c.act_of.result talks here merges
    (subst Q (sym c.act_of.ensures.nexts) c.in_ok-arms.ensures.ok) (subst R (talks-3 ∙ sym talks) (subst P (c.survey.view_is ∙ c.survey-survey.ensures.survey) c.act_of.ensures.shape))

pub returns-in-Some-clause-err : goal.returns-in-Some-clause-err
returns-in-Some-clause-err c =
    let f = c.index-as_slice-number.result in
    let here = read_via c.args.search.now.fronts c.as_slice.result.now c.args.number f c.as_slice.ensures c.requires.number c.index-as_slice-number.is in
    let V = c.survey.view_is ∙ c.survey-survey.ensures.survey in
    let role = c.survey.inside.role in
    let pr = c.survey.inside.protocol.now in
    let P : Option Clash → Type 0 = λ o. MatchOption o (AllAgree pr role f.talks (length f.talks) × HasEndAlone f) (λ clash. FirstClash pr role f clash.a clash.b) in
    let D : Survey_data → Type 0 = λ z. FirstClash z.protocol z.role f c.in-Some.clash.a c.in-Some.clash.b in
    (ap (λ (z : Survey_data). z.role) V, record { front = f; here = here; clash = subst D V (subst P c.in-Some.is c.in_ok-found.ensures) })
