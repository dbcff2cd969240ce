use Rattle.std.proofs.Common.{arith, [], ◌∷◌, ◌++◌, ◌≡◌, ◌∙◌, ℕ, List, Some, slice_get, ap, subst, sym}
use Rattle.rs_graph.specs.Removal.{at}
use Rattle.rs_explain.proofs.Circling.{item_of, node_in, round_begins, round_ends, round_goes, round_some, round_tight, row_read}
use Rattle.rs_explain.specs.KeptNodes.{spots_at}
use Rattle.rs_explain.specs.Walks.{WalkStep_data}
use Rattle.rs_explain.proofs.rounds.round.Goals as goal

pub nearest-left-requires-clause-some : goal.nearest-left-requires-clause-some
nearest-left-requires-clause-some c =
    let s = c.requires.some in
    let lt = item_of c.args.table.now.spots c.args.nodes.now.items.items c.args.start s.0 s.2 in
    let inn = node_in c.args.table.now.spots c.args.nodes.now.items.items c.args.nodes.now.places.items c.args.nodes.now.rows.items c.requires.nodes.numbers c.args.start lt in
    let er = c.as_slice.ensures ∙ row_read c.args.nodes.now.rows.items c.args.start c.index.result.now inn.0 c.index.ensures in
    let r = round_some c.args.sub.now c.args.above.now c.args.bound (spots_at c.args.table.now.spots c.args.nodes.now.items.items) (λ n. at c.args.nodes.now.places.items n) c.args.nodes.now.rows.items c.args.far.now c.args.start s.0 s.1
    (c.requires.charted s.0 s.2) s.2 s.3 in
    (r.0, r.1, r.2, subst (λ (z : List ℕ). slice_get z r.0 ≡ Some r.1) (sym er) r.3, r.4)

pub step_from-requires-clause-present : goal.step_from-requires-clause-present
step_from-requires-clause-present c = let s = c.requires.some in item_of c.args.table.now.spots c.args.nodes.now.items.items c.args.start s.0 s.2

pub step_from-requires-clause-some : goal.step_from-requires-clause-some
step_from-requires-clause-some c =
    let s = c.requires.some in
    let lt = item_of c.args.table.now.spots c.args.nodes.now.items.items c.args.start s.0 s.2 in
    let inn = node_in c.args.table.now.spots c.args.nodes.now.items.items c.args.nodes.now.places.items c.args.nodes.now.rows.items c.requires.nodes.numbers c.args.start lt in
    let er = c.as_slice.ensures ∙ row_read c.args.nodes.now.rows.items c.args.start c.index.result.now inn.0 c.index.ensures in
    let r = c.nearest-left.ensures.some in
    (r.0, r.1, subst (λ (z : List ℕ). slice_get z r.0 ≡ Some r.1) er r.2, r.3)

pub loop-left-init : goal.loop-left-init
loop-left-init c =
    let s = c.requires.some in
    let lt = item_of c.args.table.now.spots c.args.nodes.now.items.items c.args.start s.0 s.2 in
    let inn = node_in c.args.table.now.spots c.args.nodes.now.items.items c.args.nodes.now.places.items c.args.nodes.now.rows.items c.requires.nodes.numbers c.args.start lt in
    let er = c.as_slice.ensures ∙ row_read c.args.nodes.now.rows.items c.args.start c.index.result.now inn.0 c.index.ensures in
    round_begins (spots_at c.args.table.now.spots c.args.nodes.now.items.items) (λ n. at c.args.nodes.now.places.items n) c.args.nodes.now.rows.items c.args.far.now c.args.start
    c.in_ok-first.first.node c.nearest-left.result c.in_ok-first.first.step c.push.new.self.items c.in_ok-first.ensures
    (λ i r d a h. c.nearest-left.ensures.least i r d (subst (λ (z : List ℕ). slice_get z i ≡ Some r) (sym er) a) h)
    (c.in_ok-push.ensures.items ∙ ap (λ (z : List WalkStep_data). z ++ c.in_ok-first.first.step ∷ []) c.new-steps.ensures.items)

pub step_from-requires-in-loop-left-clause-some : goal.step_from-requires-in-loop-left-clause-some
step_from-requires-in-loop-left-clause-some c =
    let s = c.requires.some in
    round_tight (spots_at c.args.table.now.spots c.args.nodes.now.items.items) (λ n. at c.args.nodes.now.places.items n) c.args.nodes.now.rows.items c.args.far.now c.args.start c.loop-left.steps.items c.loop-left.node c.loop-left.left
    (c.requires.charted s.0 s.2).downhill.tight c.loop-left.invariant c.loop-left-test.true

pub loop-left-preserved : goal.loop-left-preserved
loop-left-preserved c =
    round_goes (spots_at c.args.table.now.spots c.args.nodes.now.items.items) (λ n. at c.args.nodes.now.places.items n) c.args.nodes.now.rows.items c.args.far.now c.args.start c.loop-left.steps.items c.push-in-loop-left.new.self.items
    c.loop-left.node c.loop-left.left c.in_ok-next.next.node c.in_ok-next.next.step c.loop-left.invariant c.loop-left-test.true c.in_ok-next.ensures c.in_ok-push-2.ensures.items

pub returns : goal.returns
returns c = λ x e.
    round_ends c.args.sub.now c.args.above.now c.args.bound (spots_at c.args.table.now.spots c.args.nodes.now.items.items) (λ n. at c.args.nodes.now.places.items n) c.args.nodes.now.rows.items c.args.far.now c.args.start c.loop-left.steps.items
    c.loop-left.node c.loop-left.left x (c.requires.charted x e) e c.loop-left.invariant (grind (arith, c.loop-left-test.false))
