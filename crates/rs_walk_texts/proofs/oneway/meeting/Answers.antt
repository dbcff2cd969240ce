use Rattle.std.proofs.Common.{◌≡◌, ◌+◌, ◌∙◌, Bool, List, ap, arith, length, suc, sym, ℕ}
use Rattle.rs_walk_texts.specs.OneWay.{spread_over, toward}
use Rattle.rs_walk_texts.proofs.Toward.{meeting_is, spread_length}
use Rattle.rs_walk_texts.proofs.oneway.meeting.Goals as goal

pub are_same-requires : goal.are_same-requires
are_same-requires c =
    ap (λ (z : List Bool). length z) (c.as_slice-in-loop-count.ensures.value ∙ c.in_ok-next.ensures)
    ∙ spread_length c.args.role c.as_slice.result.now c.args.nodes.now c.as_slice.result.now (ap (λ (z : List Bool). length z) c.as_slice.ensures.value ∙ c.loop-count.invariant.size)
    ∙ sym (ap (λ (z : List Bool). length z) c.as_slice-in-loop-count-2.ensures.value ∙ c.loop-count.invariant.size)

pub returns-then-are_same : goal.returns-then-are_same
returns-then-are_same c =
    meeting_is c.args.nodes.now c.args.role c.args.talk c.loop-count.count c.loop-count.flags.items c.in_ok-next.next.items c.loop-count.invariant.flags_are
    (let test = c.loop-count-test.true in omega (arith, test))
    (c.in_ok-next.ensures ∙ ap (λ (z : List Bool). spread_over c.args.role z c.args.nodes.now z) c.as_slice.ensures.value)
    (sym c.as_slice-in-loop-count.ensures.value ∙ c.are_same.ensures c.if-are_same.true ∙ c.as_slice-in-loop-count-2.ensures.value)

pub loop-count-preserved : goal.loop-count-preserved
loop-count-preserved c = record {
  size = ap (λ (z : List Bool). length z) c.in_ok-next.ensures
      ∙ spread_length c.args.role c.as_slice.result.now c.args.nodes.now c.as_slice.result.now (ap (λ (z : List Bool). length z) c.as_slice.ensures.value ∙ c.loop-count.invariant.size);
  flags_are =
      c.in_ok-next.ensures
      ∙ ap (λ (z : List Bool). spread_over c.args.role z c.args.nodes.now z) (c.as_slice.ensures.value ∙ c.loop-count.invariant.flags_are)
      ∙ ap (λ (z : ℕ). toward c.args.nodes.now c.args.role c.args.talk z) (let one : suc c.loop-count.count ≡ c.loop-count.count + 1 = omega arith in one);
}
