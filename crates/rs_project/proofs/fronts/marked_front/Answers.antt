use Rattle.std.proofs.Common.{◌≡◌, ◌<◌, false, not, ℕ, Bool, List, All, length, get_or, ap, subst, sym, ◌∙◌}
use Rattle.std.specs.List.{filter, list_any}
use Rattle.rs_project.specs.Marks.{IsTrueSurvey, IsSpread, Survey_data}
use Rattle.rs_project.proofs.Walks.{front_listed, listed_within}
use Rattle.rs_project.proofs.fronts.marked_front.Goals as goal

pub flagged_numbers-requires : goal.flagged_numbers-requires
flagged_numbers-requires c =
    let flags : c.deref-2.result.now ≡ c.args.survey.now.involved = c.deref-2.ensures.value ∙ ap (λ (z : Survey_data). z.involved) c.survey.view_is in
    let P : List ℕ → Type 0 = λ z. All (λ n. n < length c.deref-2.result.now) z in
    subst P (sym c.as_slice-numbers.ensures.numbers)
    (listed_within c.spread.new.self.flags c.spread.new.self.numbers (length c.deref-2.result.now)
    (c.in_ok-spread.ensures.size ∙ ap (λ (z : Survey_data). length z.protocol.nodes) c.survey.view_is
    ∙ sym (ap (λ (z : List Bool). length z) flags ∙ (subst IsTrueSurvey c.survey.view_is c.survey.invariant).survey.involved_size)) c.as_slice-numbers.ensures.listed)

pub has_unflagged-ends-requires : goal.has_unflagged-ends-requires
has_unflagged-ends-requires c =
    let flags : c.deref-3.result.now ≡ c.args.survey.now.awaited = c.deref-3.ensures.value ∙ ap (λ (z : Survey_data). z.awaited) c.survey.view_is in
    let P : List ℕ → Type 0 = λ z. All (λ n. n < length c.deref-3.result.now) z in
    subst P (sym c.as_slice-numbers.ensures.numbers)
    (listed_within c.spread.new.self.flags c.spread.new.self.numbers (length c.deref-3.result.now)
    (c.in_ok-spread.ensures.size ∙ ap (λ (z : Survey_data). length z.protocol.nodes) c.survey.view_is
    ∙ sym (ap (λ (z : List Bool). length z) flags ∙ (subst IsTrueSurvey c.survey.view_is c.survey.invariant).survey.awaited_size)) c.as_slice-numbers.ensures.listed)

pub returns : goal.returns
returns c =
    let passing : c.deref.result.now ≡ c.args.survey.now.passing = c.deref.ensures.value ∙ ap (λ (z : Survey_data). z.passing) c.survey.view_is in
    let involved : c.deref-2.result.now ≡ c.args.survey.now.involved = c.deref-2.ensures.value ∙ ap (λ (z : Survey_data). z.involved) c.survey.view_is in
    let awaited : c.deref-3.result.now ≡ c.args.survey.now.awaited = c.deref-3.ensures.value ∙ ap (λ (z : Survey_data). z.awaited) c.survey.view_is in
    let numbers = c.spread.new.self.numbers in
    let P : List Bool → Type 0 = λ z. IsSpread c.args.survey.now.protocol z c.args.starts.now c.spread.new.self.flags in
    let D : Survey_data → Type 0 = λ z. IsSpread z.protocol c.deref.result.now c.args.starts.now c.spread.new.self.flags in
    let those = c.in_ok-talks.ensures ∙ ap (λ (z : List ℕ). filter (λ n. get_or c.deref-2.result.now n false) z) c.as_slice-numbers.ensures.numbers
    ∙ ap (λ (z : List Bool). filter (λ n. get_or z n false) numbers) involved in
    let ends = c.has_unflagged-ends.ensures ∙ ap (λ (z : List ℕ). list_any (λ n. not (get_or c.deref-3.result.now n false)) z) c.as_slice-numbers.ensures.numbers
    ∙ ap (λ (z : List Bool). list_any (λ n. not (get_or z n false)) numbers) awaited in
    front_listed c.args.survey.now.protocol c.args.survey.now.role c.args.survey.now c.args.starts.now c.spread.new.self.flags numbers c.in_ok-talks.talks.items c.in_order.result.items
    c.has_unflagged-ends.result (subst IsTrueSurvey c.survey.view_is c.survey.invariant).survey
    (subst P passing (subst D c.survey.view_is c.in_ok-spread.ensures)) c.as_slice-numbers.ensures.listed those c.in_order.ensures.rising c.in_order.ensures.same ends
