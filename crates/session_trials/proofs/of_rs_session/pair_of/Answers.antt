use Rattle.std.proofs.Common.{◌≡◌, ◌<◌, ℕ, List, [], ◌∷◌, ◌++◌, length, Option, Some, None, IfSome, slice_get, sym, ap, ◌∙◌, subst, arith}
use Rattle.std.proofs.lemmas.Option.{slice_get_within}
use Rattle.rs_core.specs.Actors.{Choice}
use Rattle.rs_core.specs.Draws.{by_draws}
use Rattle.rs_core.proofs.Ends.{get_there}
use Rattle.rs_rings.specs.Views.{start_of}
use Rattle.rs_rings.specs.Passes.{Rings_data}
use Rattle.rs_session.specs.Acts.{SendsBy}
use Rattle.rs_session.specs.Data.{Stage_data}
use Rattle.rs_session.specs.Stages.{AreFirst, IsOf, first_stage, sight_of_stage}
use Rattle.rs_session.specs.declared.stages.Stage.{Stage}
use Rattle.rs_session.proofs.HandedIn.{at_end, in_front}
use Rattle.rs_exec.specs.Data.{Task_data}
use Rattle.rs_exec.specs.Polling.{IsTaskFrom, begun_by}
use Rattle.rs_exec.specs.Tasks.{IsTaskOf}
use Rattle.rs_exec.proofs.Stayed.{began_so}
use Rattle.session_trials.proofs.of_rs_session.pair_of.Goals as goal

record IsNew (session : Rings_data) (stage : Stage) : Type 0 where
  pub of : IsOf session stage
  pub nothing : (sight_of_stage stage).part.history ≡ []
  pub place : ℕ
  pub below : place < length session.machines
  pub shows : sight_of_stage stage ≡ first_stage session place

new_at : (session : Rings_data) (stages : List Stage) (place : ℕ) (stage : Stage) → AreFirst session stages → slice_get stages place ≡ Some stage → IsNew session stage
new_at session stages place stage first is =
    let within : place < length stages = slice_get_within stages place stage is in
    let at = first.each place (omega (arith, within, first.count)) in
    let both : Some at.0 ≡ Some stage = sym at.1 ∙ is in
    let same : at.0 ≡ stage = cc (both) in
    subst (IsNew session) same record { of = at.2; nothing = ap (λ s. s.part.history) at.3; place = place; below = omega (arith, within, first.count); shows = at.3 }

last_new : (session : Rings_data) (stages rest : List Stage) (b : Stage) → AreFirst session stages → stages ≡ rest ++ b ∷ [] → IsNew session b
last_new session stages rest b first is = new_at session stages (length rest) b first (ap (λ (l : List Stage). slice_get l (length rest)) is ∙ at_end rest b)

next_new : (session : Rings_data) (stages rest front : List Stage) (a b : Stage) → AreFirst session stages → stages ≡ rest ++ b ∷ [] → rest ≡ front ++ a ∷ [] → IsNew session a
next_new session stages rest front a b first is was =
    new_at session stages (length front) a first (ap (λ (l : List Stage). slice_get l (length front)) is
    ∙ in_front rest b a (length front) (ap (λ (l : List Stage). slice_get l (length front)) was ∙ at_end front a))

task_is : {A : Type 0} (session : Rings_data) (stage : Stage) (task : Task_data A) → IsOf session stage → task.stage ≡ stage → task.kept ≡ None → IsTaskOf session task
task_is session stage task of is none = record {
  of = subst (IsOf session) (sym is) of;
  keeps = subst (λ (k : Option Choice). IfSome k (λ choice. SendsBy session (sight_of_stage task.stage) choice.0 choice.1)) (sym none) tt;
}

is_from : (session : Rings_data) (stage : Stage) (task : Task_data ℕ) → IsNew session stage → task.stage ≡ stage → task.kept ≡ None → task.transcript ≡ []
    → IsTaskFrom by_draws (begun_by session task) task
is_from session stage task new is none nothing =
    let m = get_there session.machines new.place new.below in
    let shows : sight_of_stage task.stage ≡ first_stage session new.place = ap sight_of_stage is ∙ new.shows in
    began_so by_draws session m.0 task (subst (IsOf session) (sym is) new.of) (ap (λ (k : Stage_data). slice_get session.machines k.role.0) shows ∙ m.1)
    (ap (λ (k : Stage_data). k.part.history) shows) (ap (λ (k : Stage_data). k.part.state) shows ∙ ap start_of m.1) none nothing

pub task_of-requires : goal.task_of-requires
task_of-requires g c = record {
  nothing = (next_new c.in-Some.session c.in-Some.stages.items c.pop.new.self.items c.pop-2.new.self.items c.in-Some-Some.a c.in-Some-Some.b c.in-Some.ensures
      c.in-Some-Some.ensures.items c.in-Some-Some.ensures'.items).nothing;
}

pub task_of-requires-in-Some-Some : goal.task_of-requires-in-Some-Some
task_of-requires-in-Some-Some g c = record
    { nothing = (last_new c.in-Some.session c.in-Some.stages.items c.pop.new.self.items c.in-Some-Some.b c.in-Some.ensures c.in-Some-Some.ensures.items).nothing }

pub returns-clause-a : goal.returns-clause-a
returns-clause-a g c =
    let new = next_new c.in-Some.session c.in-Some.stages.items c.pop.new.self.items c.pop-2.new.self.items c.in-Some-Some.a c.in-Some-Some.b c.in-Some.ensures c.in-Some-Some.ensures.items
    c.in-Some-Some.ensures'.items in
    task_is c.in-Some.session c.in-Some-Some.a c.task_of.result new.of c.task_of.ensures.stage c.task_of.ensures.kept

pub returns-clause-b : goal.returns-clause-b
returns-clause-b g c =
    let new = last_new c.in-Some.session c.in-Some.stages.items c.pop.new.self.items c.in-Some-Some.b c.in-Some.ensures c.in-Some-Some.ensures.items in
    task_is c.in-Some.session c.in-Some-Some.b c.task_of-in-Some-Some.result new.of c.task_of-in-Some-Some.ensures.stage c.task_of-in-Some-Some.ensures.kept

pub returns-clause-a_from : goal.returns-clause-a_from
returns-clause-a_from g c =
    let new = next_new c.in-Some.session c.in-Some.stages.items c.pop.new.self.items c.pop-2.new.self.items c.in-Some-Some.a c.in-Some-Some.b c.in-Some.ensures c.in-Some-Some.ensures.items
    c.in-Some-Some.ensures'.items in
    is_from c.in-Some.session c.in-Some-Some.a c.task_of.result new c.task_of.ensures.stage c.task_of.ensures.kept c.task_of.ensures.transcript

pub returns-clause-b_from : goal.returns-clause-b_from
returns-clause-b_from g c =
    let new = last_new c.in-Some.session c.in-Some.stages.items c.pop.new.self.items c.in-Some-Some.b c.in-Some.ensures c.in-Some-Some.ensures.items in
    is_from c.in-Some.session c.in-Some-Some.b c.task_of-in-Some-Some.result new c.task_of-in-Some-Some.ensures.stage c.task_of-in-Some-Some.ensures.kept c.task_of-in-Some-Some.ensures.transcript
