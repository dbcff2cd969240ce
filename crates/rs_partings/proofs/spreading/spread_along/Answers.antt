use Rattle.std.proofs.Common.{arith, ◌<◌, ◌≤◌, ◌≡◌, ◌+◌, ◌∙◌, [], Bool, List, ℕ, ap, get_or, length, subst, sym}
use Rattle.std.proofs.lemmas.List.{get_or_default}
use Rattle.rs_graph.proofs.Buckets.{the_row}
use Rattle.rs_partings.specs.Rows.{GrownSoFar}
use Rattle.rs_partings.proofs.Growing.{grown_begun, grown_on, grown_whole, grown_within}
use Rattle.rs_partings.proofs.Turning.{row_below}
use Rattle.rs_partings.proofs.spreading.spread_along.Goals as goal

pub loop-done-init : goal.loop-done-init
loop-done-init c = record {
  size = ap (λ (z : List Bool). length z) c.in_ok-marks.ensures.items ∙ c.requires.size;
  growing = grown_begun c.args.rows.now c.args.starts.now c.in_ok-marks.marks.items c.in_ok-numbers.numbers.items c.in_ok-marks.ensures.items c.in_ok-numbers.ensures;
}

pub bounds-rows-number : goal.bounds-rows-number
bounds-rows-number c =
    let numbers = c.loop-done.numbers.items in
    let lt : c.loop-done.done < length numbers = (let l = c.len.ensures in let t = c.loop-done-test.true in omega (arith, l, t)) in
    let is : c.index-number.result.now ≡ get_or numbers c.loop-done.done 0 = c.index-number.ensures ∙ get_or_default numbers c.loop-done.done c.index-number.result.now 0 lt in
    let w = grown_within c.args.rows.now c.args.starts.now c.loop-done.marks.items numbers c.loop-done.done c.index-number.result.now lt is c.loop-done.invariant.growing in
    let s = c.loop-done.invariant.size in
    omega (arith, w, s)

pub mark_all-requires : goal.mark_all-requires
mark_all-requires c =
    let numbers = c.loop-done.numbers.items in
    let x = c.index-number.result.now in
    let lt : c.loop-done.done < length numbers = (let l = c.len.ensures in let t = c.loop-done-test.true in omega (arith, l, t)) in
    let is : x ≡ get_or numbers c.loop-done.done 0 = c.index-number.ensures ∙ get_or_default numbers c.loop-done.done x 0 lt in
    let w = grown_within c.args.rows.now c.args.starts.now c.loop-done.marks.items numbers c.loop-done.done x lt is c.loop-done.invariant.growing in
    let s = c.loop-done.invariant.size in
    let e : c.as_slice.result.now ≡ get_or c.args.rows.now x [] = the_row c.args.rows.now x c.as_slice.result.now c.index-rows-number.result (omega (arith, w, s)) c.as_slice.ensures c.index-rows-number.is in
    row_below c.args.rows.now (length c.loop-done.marks.items) x c.as_slice.result.now c.requires.within s e

pub loop-done-preserved : goal.loop-done-preserved
loop-done-preserved c =
    let numbers = c.loop-done.numbers.items in
    let marks = c.loop-done.marks.items in
    let x = c.index-number.result.now in
    let lt : c.loop-done.done < length numbers = (let l = c.len.ensures in let t = c.loop-done-test.true in omega (arith, l, t)) in
    let is : x ≡ get_or numbers c.loop-done.done 0 = c.index-number.ensures ∙ get_or_default numbers c.loop-done.done x 0 lt in
    let w = grown_within c.args.rows.now c.args.starts.now marks numbers c.loop-done.done x lt is c.loop-done.invariant.growing in
    let s = c.loop-done.invariant.size in
    let e : c.as_slice.result.now ≡ get_or c.args.rows.now x [] = the_row c.args.rows.now x c.as_slice.result.now c.index-rows-number.result (omega (arith, w, s)) c.as_slice.ensures c.index-rows-number.is in
    let P : List ℕ → Type 0 = λ z. GrownSoFar c.args.rows.now c.args.starts.now marks numbers (c.loop-done.done + 1) z in
    record {
      size = c.in_ok-mark_all.ensures.size ∙ s;
      growing = c.in_ok-mark_all.ensures.keeps c.args.rows.now c.args.starts.now (c.loop-done.done + 1)
          (subst P (sym e) (grown_on c.args.rows.now c.args.starts.now marks numbers c.loop-done.done x lt is c.loop-done.invariant.growing));
    }

pub returns : goal.returns
returns c =
    let past : length c.loop-done.numbers.items ≤ c.loop-done.done = (let l = c.len.ensures in let t = c.loop-done-test.false in omega (arith, l, t)) in
    grown_whole c.args.rows.now c.args.starts.now c.loop-done.marks.items c.loop-done.numbers.items c.loop-done.done past c.loop-done.invariant.size c.loop-done.invariant.growing
