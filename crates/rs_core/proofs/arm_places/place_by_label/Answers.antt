use Rattle.std.proofs.Common.{◌≡◌, ◌≢◌, ◌∙◌, ◌<◌, ◌+◌, ◌^◌, ℕ, Some, slice_get, ap, subst, arith}
use Rattle.std.proofs.lemmas.Option.{get_or_from_slice_get, slice_get_within}
use Rattle.rs_model.specs.declared.graph.Arm.{Arm}
use Rattle.rs_core.proofs.Places.{few_labels, labelled}
use Rattle.rs_core.proofs.arm_places.place_by_label.Goals as goal
use borrow.Author.Count.{below_more}

pub loop-place-preserved : goal.loop-place-preserved
loop-place-preserved c = record {
  others = λ k a less is. below_more (λ k. (a : Arm) → slice_get c.args.arms.now k ≡ Some a → a.label ≢ c.args.label) c.loop-place.place (λ k less a is. c.loop-place.invariant.others k a less is)
      (λ a is same. (let e = get_or_from_slice_get c.args.arms.now c.loop-place.place a _ is in
      let found = c.has_label.ensures.same.1 (ap (λ (z : Arm). z.label) e ∙ same) in cc (found, c.if-has_label.false))) k less a is;
  small = λ k a less is. below_more (λ k. (a : Arm) → slice_get c.args.arms.now k ≡ Some a → a.label.0 < 2 ^ 16) c.loop-place.place (λ k less a is. c.loop-place.invariant.small k a less is)
      (λ a is. (let e = get_or_from_slice_get c.args.arms.now c.loop-place.place a _ is in
      let P : Arm → Type 0 = λ z. z.label.0 < 2 ^ 16 in subst P e c.has_label.ensures.small)) k less a is;
}

pub unreachable-requires : goal.unreachable-requires
unreachable-requires c =
    let small : (k : ℕ) → k < c.loop-place.place + 1 → (a : Arm) → slice_get c.args.arms.now k ≡ Some a → a.label.0 < 2 ^ 16 =
    below_more (λ k. (a : Arm) → slice_get c.args.arms.now k ≡ Some a → a.label.0 < 2 ^ 16) c.loop-place.place (λ k less a is. c.loop-place.invariant.small k a less is)
    (λ a is. (let e = get_or_from_slice_get c.args.arms.now c.loop-place.place a _ is in
    let P : Arm → Type 0 = λ z. z.label.0 < 2 ^ 16 in subst P e c.has_label.ensures.small)) in
    let few = few_labels c.args.arms.now (c.loop-place.place + 1) (2 ^ 16) c.requires.once (λ k a less is. small k less a is) (let t = c.loop-place-test.true in omega arith) in
    c.in-Err.ensures (omega arith)

pub unreachable-requires-2 : goal.unreachable-requires-2
unreachable-requires-2 c =
    let l = labelled (slice_get c.args.arms.now c.requires.some.0) c.args.label c.requires.some.1 in
    let within = slice_get_within c.args.arms.now c.requires.some.0 l.0 l.1 in
    c.loop-place.invariant.others c.requires.some.0 l.0 (let t = c.loop-place-test.false in omega arith) l.1 l.2
