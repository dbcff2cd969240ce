use Rattle.std.proofs.Common.{arith, [], ◌≡◌, ◌+◌, ◌∙◌, ℕ, List, Some, slice_get, slice_index_or, ap, subst, sym}
use Rattle.rs_derive.specs.Derivations.{spot_of}
use Rattle.rs_graph.proofs.Growth.{at_short, in_at}
use Rattle.rs_graph.specs.Lists.{Among}
use Rattle.rs_explain.proofs.Circling.{next_in, node_in, number_read, row_read, step_made}
use Rattle.rs_explain.proofs.Nearest.{at_place}
use Rattle.rs_explain.proofs.rounds.step_from.Goals as goal

pub first_at-index-requires-clause-some : goal.first_at-index-requires-clause-some
first_at-index-requires-clause-some c =
    let inn = node_in c.args.table.now.spots c.args.nodes.now.items.items c.args.nodes.now.places.items c.args.nodes.now.rows.items c.requires.nodes c.args.node c.requires.present in
    let er = c.as_slice-row.ensures ∙ row_read c.args.nodes.now.rows.items c.args.node c.index.result.now inn.0 c.index.ensures in
    let s = c.requires.some in
    (s.1, subst (λ (z : List ℕ). Among z s.1) (sym er) (in_at (slice_index_or c.args.nodes.now.rows.items c.args.node []) s.0 s.1 s.2), s.3)

pub offset_bounds-row-index : goal.offset_bounds-row-index
offset_bounds-row-index c =
    let inn = node_in c.args.table.now.spots c.args.nodes.now.items.items c.args.nodes.now.places.items c.args.nodes.now.rows.items c.requires.nodes c.args.node c.requires.present in
    let er = c.as_slice-row.ensures ∙ row_read c.args.nodes.now.rows.items c.args.node c.index.result.now inn.0 c.index.ensures in
    let a = c.first_at-index.ensures in
    let k = at_short c.as_slice-row.result.now c.first_at-index.result a.number a.stands in
    let w = next_in c.args.table.now.spots c.args.nodes.now.items.items c.args.nodes.now.places.items c.args.nodes.now.rows.items c.requires.nodes c.args.node
    c.first_at-index.result (slice_index_or c.as_slice-row.result.now c.first_at-index.result 0) (subst (λ (z : List ℕ). slice_get z c.first_at-index.result ≡ Some (slice_index_or c.as_slice-row.result.now c.first_at-index.result 0)) er (at_place c.as_slice-row.result.now c.first_at-index.result k)) in
    let f = w.2 in
    grind (arith, f)

pub bounds-row-index : goal.bounds-row-index
bounds-row-index c = let a = c.first_at-index.ensures in at_short c.as_slice-row.result.now c.first_at-index.result a.number a.stands

pub overflow_cast-place : goal.overflow_cast-place
overflow_cast-place c =
    let inn = node_in c.args.table.now.spots c.args.nodes.now.items.items c.args.nodes.now.places.items c.args.nodes.now.rows.items c.requires.nodes c.args.node c.requires.present in
    let er = c.as_slice-row.ensures ∙ row_read c.args.nodes.now.rows.items c.args.node c.index.result.now inn.0 c.index.ensures in
    let a = c.first_at-index.ensures in
    let k = at_short c.as_slice-row.result.now c.first_at-index.result a.number a.stands in
    let w = next_in c.args.table.now.spots c.args.nodes.now.items.items c.args.nodes.now.places.items c.args.nodes.now.rows.items c.requires.nodes c.args.node
    c.first_at-index.result (slice_index_or c.as_slice-row.result.now c.first_at-index.result 0) (subst (λ (z : List ℕ). slice_get z c.first_at-index.result ≡ Some (slice_index_or c.as_slice-row.result.now c.first_at-index.result 0)) er (at_place c.as_slice-row.result.now c.first_at-index.result k)) in
    let f = w.2 in
    grind (arith, f)

pub overflow_add-place : goal.overflow_add-place
overflow_add-place c =
    let inn = node_in c.args.table.now.spots c.args.nodes.now.items.items c.args.nodes.now.places.items c.args.nodes.now.rows.items c.requires.nodes c.args.node c.requires.present in
    let er = c.as_slice-row.ensures ∙ row_read c.args.nodes.now.rows.items c.args.node c.index.result.now inn.0 c.index.ensures in
    let a = c.first_at-index.ensures in
    let k = at_short c.as_slice-row.result.now c.first_at-index.result a.number a.stands in
    let w = next_in c.args.table.now.spots c.args.nodes.now.items.items c.args.nodes.now.places.items c.args.nodes.now.rows.items c.requires.nodes c.args.node
    c.first_at-index.result (slice_index_or c.as_slice-row.result.now c.first_at-index.result 0) (subst (λ (z : List ℕ). slice_get z c.first_at-index.result ≡ Some (slice_index_or c.as_slice-row.result.now c.first_at-index.result 0)) er (at_place c.as_slice-row.result.now c.first_at-index.result k)) in
    let f = w.2 in
    let p = number_read c.args.nodes.now.places.items c.args.node c.index-2.result.now inn.1 c.index-2.ensures in
    let l = c.requires.nodes.low c.args.node in
    grind (arith, f, p, l)

pub index-requires-3 : goal.index-requires-3
index-requires-3 c =
    let inn = node_in c.args.table.now.spots c.args.nodes.now.items.items c.args.nodes.now.places.items c.args.nodes.now.rows.items c.requires.nodes c.args.node c.requires.present in
    let er = c.as_slice-row.ensures ∙ row_read c.args.nodes.now.rows.items c.args.node c.index.result.now inn.0 c.index.ensures in
    let a = c.first_at-index.ensures in
    let k = at_short c.as_slice-row.result.now c.first_at-index.result a.number a.stands in
    let w = next_in c.args.table.now.spots c.args.nodes.now.items.items c.args.nodes.now.places.items c.args.nodes.now.rows.items c.requires.nodes c.args.node
    c.first_at-index.result (slice_index_or c.as_slice-row.result.now c.first_at-index.result 0) (subst (λ (z : List ℕ). slice_get z c.first_at-index.result ≡ Some (slice_index_or c.as_slice-row.result.now c.first_at-index.result 0)) er (at_place c.as_slice-row.result.now c.first_at-index.result k)) in
    let f = w.0 in
    omega (arith, f, c.args.nodes.now.items.ok)

pub node-requires : goal.node-requires
node-requires c =
    let inn = node_in c.args.table.now.spots c.args.nodes.now.items.items c.args.nodes.now.places.items c.args.nodes.now.rows.items c.requires.nodes c.args.node c.requires.present in
    let er = c.as_slice-row.ensures ∙ row_read c.args.nodes.now.rows.items c.args.node c.index.result.now inn.0 c.index.ensures in
    let a = c.first_at-index.ensures in
    let k = at_short c.as_slice-row.result.now c.first_at-index.result a.number a.stands in
    let w = next_in c.args.table.now.spots c.args.nodes.now.items.items c.args.nodes.now.places.items c.args.nodes.now.rows.items c.requires.nodes c.args.node
    c.first_at-index.result (slice_index_or c.as_slice-row.result.now c.first_at-index.result 0) (subst (λ (z : List ℕ). slice_get z c.first_at-index.result ≡ Some (slice_index_or c.as_slice-row.result.now c.first_at-index.result 0)) er (at_place c.as_slice-row.result.now c.first_at-index.result k)) in
    let n = number_read c.args.nodes.now.items.items (slice_index_or c.as_slice-row.result.now c.first_at-index.result 0) c.index-3.result.now w.0 c.index-3.ensures in
    let l = w.1 in
    omega arith

pub returns : goal.returns
returns c =
    let inn = node_in c.args.table.now.spots c.args.nodes.now.items.items c.args.nodes.now.places.items c.args.nodes.now.rows.items c.requires.nodes c.args.node c.requires.present in
    let er = c.as_slice-row.ensures ∙ row_read c.args.nodes.now.rows.items c.args.node c.index.result.now inn.0 c.index.ensures in
    let a = c.first_at-index.ensures in
    let k = at_short c.as_slice-row.result.now c.first_at-index.result a.number a.stands in
    let w = next_in c.args.table.now.spots c.args.nodes.now.items.items c.args.nodes.now.places.items c.args.nodes.now.rows.items c.requires.nodes c.args.node
    c.first_at-index.result (slice_index_or c.as_slice-row.result.now c.first_at-index.result 0) (subst (λ (z : List ℕ). slice_get z c.first_at-index.result ≡ Some (slice_index_or c.as_slice-row.result.now c.first_at-index.result 0)) er (at_place c.as_slice-row.result.now c.first_at-index.result k)) in
    let p = number_read c.args.nodes.now.places.items c.args.node c.index-2.result.now inn.1 c.index-2.ensures in
    let n = number_read c.args.nodes.now.items.items (slice_index_or c.as_slice-row.result.now c.first_at-index.result 0) c.index-3.result.now w.0 c.index-3.ensures in
    step_made c.args.table.now.spots c.args.nodes.now.items.items c.args.nodes.now.places.items c.args.nodes.now.rows.items c.requires.nodes c.args.far.now c.args.node
    c.args.distance c.first_at-index.result (slice_index_or c.as_slice-row.result.now c.first_at-index.result 0) (c.index-2.result.now + c.first_at-index.result) c.as_slice-row.result.now (spot_of c.node.result.now) c.in_ok-step.step
    c.requires.present er a (at_place c.as_slice-row.result.now c.first_at-index.result k) (ap (λ (z : ℕ). z + c.first_at-index.result) p)
    (ap (λ (z : ℕ). slice_get c.args.table.now.spots z) (sym n) ∙ c.node.ensures) c.in_ok-step.ensures
