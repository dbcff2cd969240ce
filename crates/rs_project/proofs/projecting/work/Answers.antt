use Rattle.smallvec.specs.SmallVec.{SmallVec}
use Rattle.std.proofs.Common.{rules, arith, ◌≡◌, ◌⊎◌, ◌<◌, ◌≤◌, ◌++◌, ◌∷◌, [], ℕ, List, map, length, ap, subst, subst₂, sym, ◌∙◌}
use Rattle.rs_model.specs.Data.{Protocol_data}
use Rattle.rs_model.specs.declared.machines.State.{State}
use Rattle.rs_model.specs.declared.graph.Role.{Role}
use Rattle.rs_project.specs.Data.{Front_data}
use Rattle.rs_project.specs.Marks.{IsTrueSurvey, Survey_data}
use Rattle.rs_project.specs.Numbered.{IsNumberedProjection}
use Rattle.rs_project.specs.Working.{FaultFrom, FindsFrom, WorksOn, StateFault}
use Rattle.rs_project.specs.Refusals.{FirstRefusal}
use Rattle.rs_project.specs.declared.projecting.ProjFault.TheVariants.{NoMemory}
use Rattle.rs_project.proofs.Found.{first_fault, working_found}
use Rattle.rs_project.proofs.Handed.{handed_on}
use Rattle.rs_project.proofs.Steps.{working_on, work_fault, working_done}
use Rattle.rs_project.proofs.projecting.work.Goals as goal

pub find_from-requires : goal.find_from-requires
find_from-requires c =
    let known = subst IsTrueSurvey c.survey.view_is c.survey.invariant in
    let er : c.protocol.inside.root ≡ c.args.survey.now.protocol.root = ap (λ (z : Protocol_data). z.root) c.protocol.view_is ∙ ap (λ (z : Survey_data). z.protocol.root) c.survey.view_is in
    let W : ℕ → Survey_data → Type 0 = λ y z. y < length z.protocol.nodes in
    record { start = subst₂ W (sym er) (sym c.in_ok-search.ensures.survey) known.well_formed.root }

pub returns-in_err-_first-clause-err : goal.returns-in_err-_first-clause-err
returns-in_err-_first-clause-err c =
    let pr = c.args.survey.now.protocol in
    let role = c.args.survey.now.role in
    let e = c.in_err-_first.field-0.0 in
    let F : Survey_data → Type 0 = λ z. FaultFrom z.protocol z.role c.in_ok-search.search.fronts (c.protocol.inside.root ∷ []) e in
    handed_on c.from_residual-in_err-_first.result e (λ e. (e ≡ NoMemory) ⊎ FirstRefusal pr role e) c.from_residual-in_err-_first.ensures.1
    (first_fault pr role c.in_ok-search.search.fronts (c.protocol.inside.root ∷ []) c.in_ok-search.ensures.none e (subst F c.in_ok-search.ensures.survey c.in_err-_first.ensures.err))

pub loop-search-init : goal.loop-search-init
loop-search-init c =
    let known = subst IsTrueSurvey c.survey.view_is c.survey.invariant in
    let er : c.protocol.inside.root ≡ c.args.survey.now.protocol.root = ap (λ (z : Protocol_data). z.root) c.protocol.view_is ∙ ap (λ (z : Survey_data). z.protocol.root) c.survey.view_is in
    let new = c.find_from.new.self.fronts in
    let F : Survey_data → Type 0 = λ z. FindsFrom z.protocol z.role c.in_ok-search.search.fronts (c.protocol.inside.root ∷ []) new c.in_ok-_first._first in
    record {
      survey = c.find_from.ensures.survey ∙ c.in_ok-search.ensures.survey;
      working = working_found c.args.survey.now.protocol c.args.survey.now.role c.args.survey.now c.in_ok-search.search.fronts new c.in_ok-states.states.items c.protocol.inside.root
          c.in_ok-_first._first
          known.survey er c.in_ok-search.ensures.none c.in_ok-states.ensures.items (subst F c.in_ok-search.ensures.survey c.in_ok-_first.ensures.ok);
    }

pub returns-in_err-state-clause-err : goal.returns-in_err-state-clause-err
returns-in_err-state-clause-err c =
    let pr = c.args.survey.now.protocol in
    let role = c.args.survey.now.role in
    let e = c.in_err-state.field-0.0 in
    let n : c.len-in-loop-search-2.result ≡ length c.loop-search.states.items = search rules in
    let P : ℕ → Survey_data → Type 0 = λ y z. StateFault z.protocol z.role c.loop-search.search.fronts y e in
    handed_on c.from_residual-in_err-state.result e (λ e. (e ≡ NoMemory) ⊎ FirstRefusal pr role e) c.from_residual-in_err-state.ensures.1
    (work_fault pr role c.loop-search.search.fronts c.loop-search.states.items c.requires.reached c.loop-search.invariant.working e
    (subst₂ P n c.loop-search.invariant.survey c.in_err-state.ensures.err))

pub loop-search-preserved : goal.loop-search-preserved
loop-search-preserved c =
    let new = c.state_of.new.search.fronts in
    let n : c.len-in-loop-search-2.result ≡ length c.loop-search.states.items = search rules in
    let P : ℕ → Survey_data → Type 0 = λ y z. WorksOn z.protocol z.role c.loop-search.search.fronts y new c.in_ok-state.state in
    record {
      survey = c.state_of.ensures.survey ∙ c.loop-search.invariant.survey;
      working = working_on c.args.survey.now.protocol c.args.survey.now.role c.loop-search.search.fronts new c.loop-search.states.items c.push_reserved.new.self.items c.in_ok-state.state
          (c.push_reserved.ensures.items ∙ ap (λ (z : List State). z ++ c.in_ok-state.state ∷ []) c.in_ok-reserve.ensures.items) c.loop-search.invariant.working
          (subst₂ P n c.loop-search.invariant.survey c.in_ok-state.ensures.ok);
    }

pub returns-clause-ok : goal.returns-clause-ok
returns-clause-ok c =
    let fronts = c.loop-search.search.fronts in
    let states = c.loop-search.states.items in
    let a : c.len.result ≡ length states = search rules in
    let b : c.len-in-loop-search.result ≡ length fronts = c.len-in-loop-search.ensures.count in
    let le : length fronts ≤ length states = (let f = c.loop-search-test.false in omega (arith, a, b, f)) in
    let sets : List (List ℕ) = map (λ (s : SmallVec ℕ). s.items) c.in_ok-sets.sets.items in
    let P : Role → Type 0 = λ z. IsNumberedProjection c.args.survey.now.protocol c.args.survey.now.role record { machine = record { role = z; states = states; start = 0 }; sets = sets } in
    subst P (sym (ap (λ (z : Survey_data). z.role) c.survey.view_is))
    (working_done c.args.survey.now.protocol c.args.survey.now.role fronts states sets c.requires.reached c.loop-search.invariant.working le
    (c.in_ok-sets.ensures ∙ ap (λ (z : List Front_data). map (λ (f : Front_data). f.talks) z) c.into_fronts.ensures))
