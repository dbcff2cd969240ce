use Rattle.std.proofs.Common.{arith, ℕ, ◌≡◌, ◌∙◌, slice_index_or, sym, subst, ap, inl, inr, slice_get, Some}
use Rattle.std.proofs.lemmas.Bool.{cases_lt}
use Rattle.std.proofs.lemmas.Option.{same_Some}
use Rattle.rs_graph.proofs.Buckets.{place_in}
use Rattle.rs_graph.proofs.Growth.{at_in, at_short}
use Rattle.rs_explain.proofs.Nearest.{at_place}
use Rattle.rs_explain.specs.Distances.{far_at}
use Rattle.rs_explain.proofs.walking.first_at.Goals as goal

pub bounds-far-row : goal.bounds-far-row
bounds-far-row c = c.requires.within (slice_index_or c.args.row.now c.loop-place.place 0) (place_in c.args.row.now c.loop-place.place c.loop-place-test.true)

pub returns-then-is_at : goal.returns-then-is_at
returns-then-is_at c = record {
  number = slice_index_or c.args.row.now c.loop-place.place 0;
  stands = at_place c.args.row.now c.loop-place.place c.loop-place-test.true;
  far_is = c.is_at.ensures.yes c.if-is_at.true;
  before = c.loop-place.invariant;
}

pub loop-place-preserved : goal.loop-place-preserved
loop-place-preserved c = λ i k lt g h. elim (cases_lt i c.loop-place.place) [
  | inl a ↦ c.loop-place.invariant i k a g h
  | inr a ↦ (let same : i ≡ c.loop-place.place = omega arith in
      let number : k ≡ slice_index_or c.args.row.now c.loop-place.place 0 = same_Some k (slice_index_or c.args.row.now c.loop-place.place 0)
      (sym g ∙ ap (λ (z : ℕ). slice_get c.args.row.now z) same ∙ at_place c.args.row.now c.loop-place.place c.loop-place-test.true) in
      c.is_at.ensures.no c.if-is_at.false (subst (λ (z : ℕ). far_at c.args.far.now z ≡ Some c.args.distance) number h))
]

pub unreachable-requires : goal.unreachable-requires
unreachable-requires c =
    let s = c.requires.some in
    let i = at_in c.args.row.now s.0 s.1 in
    let w = at_short c.args.row.now i.0 s.0 i.1 in
    c.loop-place.invariant i.0 s.0 (grind (arith, w, c.loop-place-test.false)) i.1 s.2
