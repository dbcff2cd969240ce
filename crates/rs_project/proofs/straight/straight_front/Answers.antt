use Rattle.std.proofs.Common.{arith, ◌∙◌, ◌∷◌, [], ℕ, List, length, length-append, get_or, take, ap, sym, subst}
use Rattle.std.proofs.lemmas.List.{take_all}
use Rattle.std.proofs.lemmas.Option.{slice_get-get_or}
use Rattle.rs_project.proofs.Routes.{AreMet, met_front, met_more, none_met}
use Rattle.rs_project.proofs.straight.straight_front.Goals as goal

pub loop-start-init : goal.loop-start-init
loop-start-init c =
    let P : List ℕ → Type 0 = λ z. AreMet c.args.survey.now.protocol c.args.survey.now.role (take 0 c.args.starts.now) z in
    record {
      met = subst P (sym c.new-talks.ensures.items) (none_met c.args.survey.now.protocol c.args.survey.now.role);
      many = ap (λ (z : List ℕ). length z) c.new-talks.ensures.items;
      room = c.new-talks.ensures.capacity;
    }

pub loop-start-preserved : goal.loop-start-preserved
loop-start-preserved c =
    let s = get_or c.args.starts.now c.loop-start.start-index 0 in
    record {
      met = met_more c.args.survey.now.protocol c.args.survey.now.role c.args.starts.now c.loop-start.start-index s c.loop-start.talks.items c.push_reserved.new.self.items c.in-Some.talk
          (slice_get-get_or c.args.starts.now c.loop-start.start-index 0 c.loop-start-test.true) c.push_reserved.ensures.items c.in-Some.ensures c.loop-start.invariant.met;
      many = (let l = ap (λ (z : List ℕ). length z) c.push_reserved.ensures.items ∙ length-append c.loop-start.talks.items (c.in-Some.talk ∷ []) in let m = c.loop-start.invariant.many in omega (arith, l, m));
      room = c.push_reserved.ensures.capacity ∙ c.loop-start.invariant.room;
    }

pub returns : goal.returns
returns c =
    let f = c.loop-start-test.false in
    let P : List ℕ → Type 0 = λ z. AreMet c.args.survey.now.protocol c.args.survey.now.role z c.loop-start.talks.items in
    met_front c.args.survey.now.protocol c.args.survey.now.role c.args.starts.now c.loop-start.talks.items c.in_order.result.items c.in_order.ensures.rising c.in_order.ensures.same
    (subst P (take_all c.loop-start.start-index c.args.starts.now (omega (arith, f))) c.loop-start.invariant.met)
