use Rattle.std.proofs.Common.{subst}
use Rattle.std.specs.List.{All}
use Rattle.rs_project.specs.Marks.{StandsFor}
use Rattle.rs_project.specs.Working.{Search_data}
use Rattle.rs_project.proofs.Found.{fault_all, finds_all, search_result, some_among}
use Rattle.rs_project.proofs.searching.Search.find.Goals as goal

pub returns-in-Some-one_end-clause-ok : goal.returns-in-Some-one_end-clause-ok
returns-in-Some-one_end-clause-ok c =
    let P : Search_data → Type 0 = λ z. All (λ s. StandsFor z.survey.protocol z.survey.role s c.in-Some-one_end.end) c.args.starts.now in
    finds_all c.args.self.now.survey.protocol c.args.self.now.survey.role c.args.self.now.fronts c.args.starts.now c.in-Some-one_end.end c.find_from.new.self.fronts c.find_from.result c.requires.some
    (subst P c.self.view_is c.in-Some-one_end.ensures.stand) c.find_from.ensures.ok

pub returns-in-Some-one_end-clause-err : goal.returns-in-Some-one_end-clause-err
returns-in-Some-one_end-clause-err c =
    let P : Search_data → Type 0 = λ z. All (λ s. StandsFor z.survey.protocol z.survey.role s c.in-Some-one_end.end) c.args.starts.now in
    fault_all c.args.self.now.survey.protocol c.args.self.now.survey.role c.args.self.now.fronts c.args.starts.now c.in-Some-one_end.end c.find_from.result c.requires.some
    (subst P c.self.view_is c.in-Some-one_end.ensures.stand) c.find_from.ensures.err

pub invariant_of-self-2 : goal.invariant_of-self-2
invariant_of-self-2 c =
    let S : Search_data = record { survey = c.self.inside.survey.now; fronts = c.self.inside.fronts } in
    let some = some_among c.args.starts.now c.requires.some in
    search_result S c.number_of-2.new.fronts c.self.inside.numbers.items c.args.starts.now some.0 c.in_ok-front.front c.number_of-2.result c.self.invariant some.1 c.in_ok-front.ensures
    c.number_of-2.ensures.ok c.number_of-2.ensures.same

pub invariant_of-self : goal.invariant_of-self
invariant_of-self c =
    let S : Search_data = record { survey = c.self.inside.survey.now; fronts = c.self.inside.fronts } in
    let some = some_among c.args.starts.now c.requires.some in
    search_result S c.number_of.new.fronts c.self.inside.numbers.items c.args.starts.now some.0 c.in-Some.front c.number_of.result c.self.invariant some.1 c.in-Some.ensures
    c.number_of.ensures.ok c.number_of.ensures.same
