use Rattle.std.proofs.Common.{◌∷◌, ◌<◌, [], inl, IfOk, IfErr, length, refl, ap, subst, arith}
use Rattle.rs_project.specs.Filing.{lone_front}
use Rattle.rs_project.specs.Marks.{IsOn, StandsFor, Survey_data}
use Rattle.rs_project.specs.Working.{FaultFrom, FindsFrom, Search_data}
use Rattle.rs_project.proofs.Behind.{fault_from, finds_from}
use Rattle.rs_project.proofs.Lone.{flag_at}
use Rattle.rs_project.proofs.Found.{fault_run, finds_run, lone_from, search_result}
use Rattle.rs_project.proofs.searching.Search.find_from.Goals as goal

pub invariant_of-self : goal.invariant_of-self
invariant_of-self c =
    let S : Search_data = record { survey = c.self.inside.survey.now; fronts = c.self.inside.fronts } in
    let pr = c.self.inside.survey.now.protocol in
    let role = c.self.inside.survey.now.role in
    let end = c.run_end-end.result in
    let w : end < length c.self.inside.survey.now.involved = (let i = c.run_end-end.ensures.within in let s = c.self.invariant.known.survey.involved_size in omega arith) in
    let on : IsOn c.self.inside.survey.now.involved end
    = flag_at c.survey.inside.involved.items c.self.inside.survey.now.involved end c.index.result.now _ (ap (λ (z : Survey_data). z.involved) c.survey.view_is) w c.index.ensures c.if-index.true in
    let front = lone_from pr role c.args.start end ((c.self.invariant.known.survey.involved end).0 on) c.run_end-end.ensures.stands in
    search_result S c.number_of_lone.new.fronts c.self.inside.numbers.items (c.args.start ∷ []) c.args.start (lone_front end) c.number_of_lone.result c.self.invariant (inl refl) front
    c.number_of_lone.ensures.ok c.number_of_lone.ensures.same

pub returns-then-index-clause-ok : goal.returns-then-index-clause-ok
returns-then-index-clause-ok c =
    let S : Search_data = record { survey = c.self.inside.survey.now; fronts = c.self.inside.fronts } in
    let pr = c.self.inside.survey.now.protocol in
    let role = c.self.inside.survey.now.role in
    let end = c.run_end-end.result in
    let w : end < length c.self.inside.survey.now.involved = (let i = c.run_end-end.ensures.within in let s = c.self.invariant.known.survey.involved_size in omega arith) in
    let on : IsOn c.self.inside.survey.now.involved end
    = flag_at c.survey.inside.involved.items c.self.inside.survey.now.involved end c.index.result.now _ (ap (λ (z : Survey_data). z.involved) c.survey.view_is) w c.index.ensures c.if-index.true in
    let front = lone_from pr role c.args.start end ((c.self.invariant.known.survey.involved end).0 on) c.run_end-end.ensures.stands in
    let P : Search_data → Type 0 = λ z. IfOk c.number_of_lone.result (λ n. FindsFrom z.survey.protocol z.survey.role z.fronts (c.args.start ∷ []) c.number_of_lone.new.fronts n) in
    subst P c.self.view_is (finds_from pr role c.self.inside.fronts (c.args.start ∷ []) c.number_of_lone.new.fronts (lone_front end) c.number_of_lone.result front c.number_of_lone.ensures.ok)

pub returns-then-index-clause-err : goal.returns-then-index-clause-err
returns-then-index-clause-err c =
    let S : Search_data = record { survey = c.self.inside.survey.now; fronts = c.self.inside.fronts } in
    let pr = c.self.inside.survey.now.protocol in
    let role = c.self.inside.survey.now.role in
    let end = c.run_end-end.result in
    let w : end < length c.self.inside.survey.now.involved = (let i = c.run_end-end.ensures.within in let s = c.self.invariant.known.survey.involved_size in omega arith) in
    let on : IsOn c.self.inside.survey.now.involved end
    = flag_at c.survey.inside.involved.items c.self.inside.survey.now.involved end c.index.result.now _ (ap (λ (z : Survey_data). z.involved) c.survey.view_is) w c.index.ensures c.if-index.true in
    let front = lone_from pr role c.args.start end ((c.self.invariant.known.survey.involved end).0 on) c.run_end-end.ensures.stands in
    let P : Search_data → Type 0 = λ z. IfErr c.number_of_lone.result (λ e. FaultFrom z.survey.protocol z.survey.role z.fronts (c.args.start ∷ []) e) in
    subst P c.self.view_is
    (fault_from pr role c.survey.inside.role c.self.inside.fronts (c.args.start ∷ []) (lone_front end) c.number_of_lone.result
    (ap (λ (z : Survey_data). z.role) c.survey.view_is) front c.number_of_lone.ensures.err)

pub returns-clause-ok : goal.returns-clause-ok
returns-clause-ok c =
    let P : Search_data → Type 0 = λ z. StandsFor z.survey.protocol z.survey.role c.args.start c.run_end-end.result in
    finds_run c.args.self.now.survey.protocol c.args.self.now.survey.role c.args.self.now.fronts c.args.start c.run_end-end.result c.find_idle.new.self.fronts c.find_idle.result
    (subst P c.self.view_is c.run_end-end.ensures.stands) c.find_idle.ensures.ok

pub returns-clause-err : goal.returns-clause-err
returns-clause-err c =
    let P : Search_data → Type 0 = λ z. StandsFor z.survey.protocol z.survey.role c.args.start c.run_end-end.result in
    fault_run c.args.self.now.survey.protocol c.args.self.now.survey.role c.args.self.now.fronts c.args.start c.run_end-end.result c.find_idle.result
    (subst P c.self.view_is c.run_end-end.ensures.stands) c.find_idle.ensures.err
