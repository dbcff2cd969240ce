use Rattle.std.proofs.Common.{rules, arith, ◌≡◌, ◌∙◌, ◌++◌, [], ◌∷◌, length, slice_index_or, Some, ap, sym}
use Rattle.rs_derive.specs.Derivations.{spot_of}
use Rattle.rs_graph.proofs.Buckets.{place_in}
use Rattle.rs_graph.proofs.Growth.{at_short}
use Rattle.rs_explain.proofs.Charts.{node_short, row_short, row_tight, way_begins, way_ends, way_goes}
use Rattle.rs_explain.proofs.Nearest.{at_place, few_places}
use Rattle.rs_explain.specs.Walks.{WalkStep_data}
use Rattle.rs_explain.proofs.walking.walk.Goals as goal

pub row-requires : goal.row-requires
row-requires c = (node_short c.args.table.now.rows c.args.far.now (length c.args.table.now.spots) c.loop-left.node c.loop-left.left c.requires.downhill c.loop-left.invariant.far_is).1

pub first_at-place-requires-clause-within : goal.first_at-place-requires-clause-within
first_at-place-requires-clause-within c = λ r m.
    (row_short c.args.table.now.rows c.args.far.now (length c.args.table.now.spots) c.loop-left.node r c.as_slice-row.result.now c.requires.downhill
    (c.row.ensures ∙ ap Some (sym c.as_slice-row.ensures)) m).1

pub first_at-place-requires-clause-some : goal.first_at-place-requires-clause-some
first_at-place-requires-clause-some c =
    row_tight c.args.table.now.spots (λ n. 0) c.args.table.now.rows c.args.far.now 0 c.loop-left.steps.items (length c.args.table.now.spots) c.loop-left.node c.loop-left.left
    c.as_slice-row.result.now c.requires.downhill c.loop-left.invariant c.loop-left-test.true (c.row.ensures ∙ ap Some (sym c.as_slice-row.ensures))

pub offset_bounds-row-place : goal.offset_bounds-row-place
offset_bounds-row-place c =
    let a = c.first_at-place.ensures in
    let k = at_short c.as_slice-row.result.now c.first_at-place.result a.number a.stands in
    let t = c.as_slice-row.type_inv.1 in
    grind (arith, k, t)

pub bounds-row-place : goal.bounds-row-place
bounds-row-place c = let a = c.first_at-place.ensures in at_short c.as_slice-row.result.now c.first_at-place.result a.number a.stands

pub overflow_cast-place : goal.overflow_cast-place
overflow_cast-place c =
    let a = c.first_at-place.ensures in
    let k = at_short c.as_slice-row.result.now c.first_at-place.result a.number a.stands in
    let f = few_places c.args.table.now.rows c.loop-left.node c.first_at-place.result 65536 c.as_slice-row.result.now (c.row.ensures ∙ ap Some (sym c.as_slice-row.ensures)) (c.requires.short c.loop-left.node) k in
    grind (arith, f)

pub node-requires : goal.node-requires
node-requires c =
    let a = c.first_at-place.ensures in
    let k = at_short c.as_slice-row.result.now c.first_at-place.result a.number a.stands in
    (row_short c.args.table.now.rows c.args.far.now (length c.args.table.now.spots) c.loop-left.node (slice_index_or c.as_slice-row.result.now c.first_at-place.result 0) c.as_slice-row.result.now
    c.requires.downhill (c.row.ensures ∙ ap Some (sym c.as_slice-row.ensures)) (place_in c.as_slice-row.result.now c.first_at-place.result k)).0

pub loop-left-init : goal.loop-left-init
loop-left-init c = rw c.new-steps.ensures.items (way_begins c.args.table.now.spots (λ n. 0) c.args.table.now.rows c.args.far.now 0 c.in-Some.left c.in-Some.is)

pub loop-left-preserved : goal.loop-left-preserved
loop-left-preserved c =
    let a = c.first_at-place.ensures in
    let k = at_short c.as_slice-row.result.now c.first_at-place.result a.number a.stands in
    let pushed : c.push.new.self.items ≡ c.loop-left.steps.items ++ c.in_ok-step_to.field-0 ∷ [] = search rules in
    way_goes c.args.table.now.spots (λ n. 0) c.args.table.now.rows c.args.far.now 0 c.loop-left.steps.items c.push.new.self.items c.loop-left.node c.loop-left.left c.first_at-place.result
    c.first_at-place.result (slice_index_or c.as_slice-row.result.now c.first_at-place.result 0) c.as_slice-row.result.now (spot_of c.node.result.now) c.loop-left.invariant
    c.loop-left-test.true (c.row.ensures ∙ ap Some (sym c.as_slice-row.ensures)) a (at_place c.as_slice-row.result.now c.first_at-place.result k) c.node.ensures (omega arith)
    (pushed ∙ ap (λ (z : WalkStep_data). c.loop-left.steps.items ++ z ∷ []) c.in_ok-step_to.ensures)

pub returns : goal.returns
returns c =
    way_ends c.args.table.now.spots (λ n. 0) c.args.table.now.rows c.args.far.now 0 c.loop-left.steps.items c.loop-left.node c.loop-left.left c.loop-left.invariant (grind arith)
