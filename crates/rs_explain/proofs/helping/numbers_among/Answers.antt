use Rattle.std.proofs.Common.{◌≡◌, ◌<◌, ◌∙◌, List, Some, ap, arith, length, refl, slice_get, subst, sym, ℕ}
use Rattle.rs_graph.specs.Removal.{at}
use Rattle.rs_search.specs.Found.{AreFoundCandidates}
use Rattle.rs_explain.proofs.Mending.{as_many_flags, beside, index_is, numbers_all, row_fits, row_within, so_far_on, stands_there}
use Rattle.rs_explain.proofs.helping.numbers_among.Goals as goal

pub row-requires-in-loop-number : goal.row-requires-in-loop-number
row-requires-in-loop-number c =
    let size = as_many_flags c.args.sub.now c.args.above.now c.args.bound c.args.found.now c.requires.found in
    let lt : c.loop-number.number < length c.args.found.now.table.spots = omega (arith, c.loop-number-test.true, c.len-number-end.ensures, size) in
    let fits : c.loop-number.number < length c.loop-number.numbers.items = omega (arith, lt, c.loop-number.invariant.size) in
    subst (λ (z : ℕ). z < length c.args.those.now.table.rows) (sym (index_is c.loop-number.numbers.items c.loop-number.number c.index.result.now fits c.index.ensures))
    (stands_there c.args.sub.now c.args.above.now c.args.bound c.args.greater c.args.found.now c.args.those.now c.loop-number.numbers.items c.loop-number.number c.requires.found c.requires.those c.loop-number.invariant lt)

pub note-requires-clause-within : goal.note-requires-clause-within
note-requires-clause-within c =
    row_within c.args.sub.now c.args.above.now c.args.bound c.args.found.now c.loop-number.number (length c.loop-number.numbers.items) c.as_slice-row.result.now c.requires.found
    (c.row.ensures ∙ ap Some (sym c.as_slice-row.ensures)) c.loop-number.invariant.size

pub note-requires-clause-fits : goal.note-requires-clause-fits
note-requires-clause-fits c =
    let size = as_many_flags c.args.sub.now c.args.above.now c.args.bound c.args.found.now c.requires.found in
    let lt : c.loop-number.number < length c.args.found.now.table.spots = omega (arith, c.loop-number-test.true, c.len-number-end.ensures, size) in
    let fits : c.loop-number.number < length c.loop-number.numbers.items = omega (arith, lt, c.loop-number.invariant.size) in
    let there = subst (λ (z : ℕ). slice_get c.args.those.now.table.rows z ≡ Some c.as_slice-beside.result.now)
    (index_is c.loop-number.numbers.items c.loop-number.number c.index.result.now fits c.index.ensures)
    (c.row-in-loop-number.ensures ∙ ap Some (sym c.as_slice-beside.ensures)) in
    row_fits c.args.sub.now c.args.above.now c.args.bound c.args.greater c.args.found.now c.args.those.now c.loop-number.numbers.items c.loop-number.number c.as_slice-row.result.now c.as_slice-beside.result.now
    c.requires.more c.requires.found c.requires.those
    (beside c.args.sub.now c.args.above.now c.args.bound c.args.greater c.args.found.now c.args.those.now c.loop-number.numbers.items c.loop-number.number c.as_slice-row.result.now c.as_slice-beside.result.now
    c.requires.found c.loop-number.invariant lt (c.row.ensures ∙ ap Some (sym c.as_slice-row.ensures)) there)

pub loop-number-preserved : goal.loop-number-preserved
loop-number-preserved c =
    let size = as_many_flags c.args.sub.now c.args.above.now c.args.bound c.args.found.now c.requires.found in
    let lt : c.loop-number.number < length c.args.found.now.table.spots = omega (arith, c.loop-number-test.true, c.len-number-end.ensures, size) in
    let fits : c.loop-number.number < length c.loop-number.numbers.items = omega (arith, lt, c.loop-number.invariant.size) in
    let there = subst (λ (z : ℕ). slice_get c.args.those.now.table.rows z ≡ Some c.as_slice-beside.result.now)
    (index_is c.loop-number.numbers.items c.loop-number.number c.index.result.now fits c.index.ensures)
    (c.row-in-loop-number.ensures ∙ ap Some (sym c.as_slice-beside.ensures)) in
    so_far_on c.args.sub.now c.args.above.now c.args.bound c.args.greater c.args.found.now c.args.those.now c.loop-number.numbers.items c.note.new.numbers.items c.loop-number.number c.as_slice-row.result.now
    c.as_slice-beside.result.now c.requires.more c.requires.found c.requires.those
    (beside c.args.sub.now c.args.above.now c.args.bound c.args.greater c.args.found.now c.args.those.now c.loop-number.numbers.items c.loop-number.number c.as_slice-row.result.now c.as_slice-beside.result.now
    c.requires.found c.loop-number.invariant lt (c.row.ensures ∙ ap Some (sym c.as_slice-row.ensures)) there) c.note.ensures c.loop-number.invariant

pub returns : goal.returns
returns c =
    let size = as_many_flags c.args.sub.now c.args.above.now c.args.bound c.args.found.now c.requires.found in
    numbers_all c.args.sub.now c.args.above.now c.args.bound c.args.found.now c.args.those.now.table.spots c.loop-number.numbers.items c.loop-number.number c.requires.found c.loop-number.invariant
    (omega (arith, c.loop-number-test.false, c.len-number-end.ensures, size))
