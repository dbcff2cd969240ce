use Rattle.std.proofs.Common.{rules, ◌≡◌, ◌∙◌, Bool, List, ap, length, subst, subst₂}
use Rattle.std.proofs.lemmas.Result.{IfOk-weaker}
use Rattle.rs_partings.specs.Flags.{AreFlags, IsReachedThrough, ReachesThrough, flagged, only_flag}
use Rattle.rs_partings.specs.Waiting.{AreWaitingRound}
use Rattle.rs_partings.proofs.Rounds.{RoundFlags, are_waiting}
use Rattle.rs_partings.proofs.waiting.waiting_round.Goals as goal

pub returns : goal.returns
returns c =
    let pr = c.args.protocol.now in
    let count = length pr.nodes in
    let passing = c.in_ok-passing.field-0.passing.items in
    let here = c.in_ok-here.here.items in
    let there = c.in_ok-there.there.items in
    let back = c.in_ok-back.back.items in
    let round = c.in_ok-round.round.items in
    let is_here : here ≡ only_flag count c.args.node = search rules in
    let T : List Bool → List Bool → Type 0 = λ y z. AreFlags count (λ n. IsReachedThrough pr y z n) there in
    let B : List Bool → List Bool → Type 0 = λ y z. AreFlags count (λ n. ReachesThrough pr y z n) back in
    let R : List Bool → Type 0 = λ z. RoundFlags pr z there back round in
    let S : List Bool → List Bool → Type 0 = λ y z. RoundFlags pr c.deref-5.result.now y z round in
    let flags : RoundFlags pr c.deref-5.result.now c.deref-6.result.now c.deref-7.result.now round = record { size = c.in_ok-round.ensures.size; each = c.in_ok-round.ensures.each } in
    IfOk-weaker c.flagged_numbers.result (λ v. v.items ≡ flagged 0 c.deref-8.result.now) (λ v. AreWaitingRound pr c.args.role c.args.node v.items)
    (λ v is. are_waiting pr c.args.role c.args.node passing here there back round v.items c.requires.well_formed c.in_ok-passing.ensures.passing is_here
    (subst₂ T c.deref.ensures.value c.deref-2.ensures.value c.in_ok-there.ensures)
    (subst₂ B c.deref-3.ensures.value c.deref-4.ensures.value c.in_ok-back.ensures)
    (subst R c.deref-5.ensures.value (subst₂ S c.deref-6.ensures.value c.deref-7.ensures.value flags))
    (is ∙ ap (λ (z : List Bool). flagged 0 z) c.deref-8.ensures.value)) c.flagged_numbers.ensures
