use Rattle.std.proofs.Common.{rules, ◌≡◌, ◌∷◌, ◌-◌, ◌<◌, [], inl, ℕ, List, Err, get_or, refl, arith, ap, subst, sym, ◌∙◌}
use Rattle.rs_project.specs.Marks.{Survey_data}
use Rattle.rs_project.specs.Working.{FaultFrom, FindsFrom, IsSearch, Search_data}
use Rattle.rs_project.proofs.Behind.{fault_from}
use Rattle.rs_project.proofs.Handed.{handed_on}
use Rattle.rs_project.proofs.Lists.{at_short}
use Rattle.rs_project.proofs.Numbers.{stands_adds}
use Rattle.rs_project.proofs.Runs.{stands_itself}
use Rattle.rs_project.proofs.Found.{finds_known, noted_at, same_numbers, search_adds, search_result}
use Rattle.rs_project.proofs.searching.Search.find_idle.Goals as goal

pub returns-then-known-gt0-clause-ok : goal.returns-then-known-gt0-clause-ok
returns-then-known-gt0-clause-ok c =
    let S : Search_data = record { survey = c.self.inside.survey.now; fronts = c.self.inside.fronts } in
    let pr = c.self.inside.survey.now.protocol in
    let role = c.self.inside.survey.now.role in
    let end = c.args.end in
    let P : Search_data → Type 0 = λ z. FindsFrom z.survey.protocol z.survey.role z.fronts (c.args.end ∷ []) z.fronts (c.from.result - 1) in
    let same : c.number_at-known.result ≡ c.from.result = search rules in
    let Q : ℕ → Type 0 = λ z. FindsFrom S.survey.protocol S.survey.role S.fronts (c.args.end ∷ []) S.fronts (z - 1) in
    let some : 0 < c.number_at-known.result = (let t = c.if-known-gt0.true in omega (arith, t)) in
    subst P c.self.view_is
    (subst Q same (finds_known S c.self.inside.numbers.items end end c.number_at-known.result c.self.invariant (stands_itself pr role end)
    (c.number_at-known.ensures ∙ ap (λ (z : List ℕ). get_or z end 0) c.deref.ensures.value) some))

pub invariant_of-self : goal.invariant_of-self
invariant_of-self c =
    let S : Search_data = record { survey = c.self.inside.survey.now; fronts = c.self.inside.fronts } in
    let pr = c.self.inside.survey.now.protocol in
    let role = c.self.inside.survey.now.role in
    let end = c.args.end in
    let numbers = c.make_room.new.numbers.items in
    let is = same_numbers S c.self.inside.numbers.items numbers c.make_room.ensures.same c.self.invariant in
    is

pub invariant_of-self-in_err-front : goal.invariant_of-self-in_err-front
invariant_of-self-in_err-front c =
    let S : Search_data = record { survey = c.self.inside.survey.now; fronts = c.self.inside.fronts } in
    let pr = c.self.inside.survey.now.protocol in
    let role = c.self.inside.survey.now.role in
    let end = c.args.end in
    let numbers = c.make_room.new.numbers.items in
    let is = same_numbers S c.self.inside.numbers.items numbers c.make_room.ensures.same c.self.invariant in
    is

pub invariant_of-self-in_err-number : goal.invariant_of-self-in_err-number
invariant_of-self-in_err-number c =
    let S : Search_data = record { survey = c.self.inside.survey.now; fronts = c.self.inside.fronts } in
    let pr = c.self.inside.survey.now.protocol in
    let role = c.self.inside.survey.now.role in
    let end = c.args.end in
    let numbers = c.make_room.new.numbers.items in
    let is = same_numbers S c.self.inside.numbers.items numbers c.make_room.ensures.same c.self.invariant in
    search_result S c.number_of.new.fronts numbers (end ∷ []) end c.in_ok-front.front (Err c.in_err-number.field-0.0) is
    (inl refl) c.in_ok-front.ensures c.in_err-number.ensures.ok c.in_err-number.ensures.same

pub returns-in_err-number-clause-err : goal.returns-in_err-number-clause-err
returns-in_err-number-clause-err c =
    let S : Search_data = record { survey = c.self.inside.survey.now; fronts = c.self.inside.fronts } in
    let pr = c.self.inside.survey.now.protocol in
    let role = c.self.inside.survey.now.role in
    let end = c.args.end in
    let P : Search_data → Type 0 = λ z. FaultFrom z.survey.protocol z.survey.role z.fronts (c.args.end ∷ []) c.in_err-number.field-0.0 in
    handed_on c.from_residual-in_err-number.result c.in_err-number.field-0.0 (λ e. FaultFrom c.args.self.now.survey.protocol c.args.self.now.survey.role c.args.self.now.fronts (c.args.end ∷ []) e)
    c.from_residual-in_err-number.ensures.1
    (subst P c.self.view_is
    (fault_from pr role c.survey.inside.role c.self.inside.fronts (c.args.end ∷ []) c.in_ok-front.front (Err c.in_err-number.field-0.0) (ap (λ (z : Survey_data). z.role) c.survey.view_is)
    c.in_ok-front.ensures c.in_err-number.ensures.err))

pub overflow_cast-number : goal.overflow_cast-number
overflow_cast-number c =
    let S : Search_data = record { survey = c.self.inside.survey.now; fronts = c.self.inside.fronts } in
    let pr = c.self.inside.survey.now.protocol in
    let role = c.self.inside.survey.now.role in
    let end = c.args.end in
    let n = c.in_ok-number.number in
    let is = search_adds S c.number_of.new.fronts c.self.inside.numbers.items (end ∷ []) end c.in_ok-front.front n c.self.invariant (inl refl) c.in_ok-front.ensures c.in_ok-number.ensures.ok in
    let short = at_short c.number_of.new.fronts n c.in_ok-front.front (stands_adds c.self.inside.fronts c.number_of.new.fronts c.in_ok-front.front n c.in_ok-number.ensures.ok) in
    let few = is.found.bounded in
    omega (arith, short, few)

pub overflow_add-number : goal.overflow_add-number
overflow_add-number c =
    let S : Search_data = record { survey = c.self.inside.survey.now; fronts = c.self.inside.fronts } in
    let pr = c.self.inside.survey.now.protocol in
    let role = c.self.inside.survey.now.role in
    let end = c.args.end in
    let n = c.in_ok-number.number in
    let is = search_adds S c.number_of.new.fronts c.self.inside.numbers.items (end ∷ []) end c.in_ok-front.front n c.self.invariant (inl refl) c.in_ok-front.ensures c.in_ok-number.ensures.ok in
    let short = at_short c.number_of.new.fronts n c.in_ok-front.front (stands_adds c.self.inside.fronts c.number_of.new.fronts c.in_ok-front.front n c.in_ok-number.ensures.ok) in
    let few = is.found.bounded in
    omega (arith, short, few)

pub invariant_of-self-2 : goal.invariant_of-self-2
invariant_of-self-2 c =
    let S : Search_data = record { survey = c.self.inside.survey.now; fronts = c.self.inside.fronts } in
    let pr = c.self.inside.survey.now.protocol in
    let role = c.self.inside.survey.now.role in
    let end = c.args.end in
    let numbers = c.make_room.new.numbers.items in
    let is = same_numbers S c.self.inside.numbers.items numbers c.make_room.ensures.same c.self.invariant in
    let n = c.in_ok-number.number in
    let T : Search_data = record { survey = c.self.inside.survey.now; fronts = c.number_of.new.fronts } in
    let P : List ℕ → Type 0 = λ z. IsSearch T z in
    subst P (sym c.set_number.ensures)
    (noted_at T numbers end n c.in_ok-front.front (search_adds S c.number_of.new.fronts numbers (end ∷ []) end c.in_ok-front.front n is (inl refl) c.in_ok-front.ensures c.in_ok-number.ensures.ok)
    c.in_ok-make_room.ensures.room (stands_adds c.self.inside.fronts c.number_of.new.fronts c.in_ok-front.front n c.in_ok-number.ensures.ok) c.in_ok-front.ensures)

pub returns-clause-ok : goal.returns-clause-ok
returns-clause-ok c =
    let S : Search_data = record { survey = c.self.inside.survey.now; fronts = c.self.inside.fronts } in
    let pr = c.self.inside.survey.now.protocol in
    let role = c.self.inside.survey.now.role in
    let end = c.args.end in
    let P : Search_data → Type 0 = λ z. FindsFrom z.survey.protocol z.survey.role z.fronts (c.args.end ∷ []) c.number_of.new.fronts c.in_ok-number.number in
    subst P c.self.view_is record {
      front = c.in_ok-front.front;
      is_front = c.in_ok-front.ensures;
      adds = c.in_ok-number.ensures.ok;
    }
