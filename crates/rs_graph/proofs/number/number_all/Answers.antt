use Rattle.std.proofs.Common.{rules, arith, ◌≡◌, ◌<◌, ◌+◌, [], ◌∷◌, ℕ, List, length, slice_get, slice_index_or, Some, sym, ◌∙◌, ap, subst}
use Rattle.rs_graph.specs.Naming.{AreNamed}
use Rattle.rs_graph.specs.Lists.{Among}
use Rattle.rs_graph.specs.Places.{next_of}
use Rattle.rs_graph.specs.Removal.{at, moves_at}
use Rattle.rs_graph.proofs.Growth.{growing_begin, reads_at}
use Rattle.rs_graph.proofs.Placing.{first_item, only_first, moves_within, placed_few}
use Rattle.rs_graph.proofs.Removed.{into_within}
use Rattle.rs_graph.proofs.Numbering.{goes_on, less_left}
use Rattle.rs_graph.proofs.number.number_all.Goals as goal

pub loop-alloc-init : goal.loop-alloc-init
loop-alloc-init g c =
    let e : c.number_of.new.items.items ≡ 0 ∷ []
    = first_item c.new-items.result.items c.number_of.new.items.items c.in_ok-number_of.field-0 c.new-items.ensures.items c.in_ok-number_of.ensures.named.adds c.in_ok-number_of.ensures.named.at in
    let l : length c.in_ok-places.places.items ≡ length c.args.graph.now.outs = search (rules, c.in_ok-places.ensures.len, c.nodes.ensures.nodes) in (
      rw (e, c.new-nexts.ensures.items) (growing_begin (next_of c.args.graph.now.outs c.args.current.now) 0),
      c.in_ok-number_of.ensures.placed,
      c.in_ok-number_of.ensures.size ∙ l,
      (λ i n h. subst (λ (z : ℕ). at c.args.current.now z < moves_at c.args.graph.now.outs z) (sym (only_first i n (subst (λ (z : List ℕ). slice_get z i ≡ Some n) e h))) c.requires.left.start),
      rw c.new-nexts.ensures.items (omega arith),
    )

pub bounds-current-n : goal.bounds-current-n
bounds-current-n g c =
    let h : slice_get c.loop-alloc.items.items (length c.loop-alloc.nexts.items) ≡ Some c.index-n.result.now
    = reads_at c.loop-alloc.items.items (length c.loop-alloc.nexts.items) c.index-n.result.now c.index-n.result.now (grind arith) (sym (grind arith)) in
    let w = moves_within c.args.graph.now.outs (at c.args.current.now c.index-n.result.now) c.index-n.result.now (c.loop-alloc.invariant.3 (length c.loop-alloc.nexts.items) c.index-n.result.now h) in
    let q = c.requires.left.size in omega arith

pub read_move-requires-clause-present : goal.read_move-requires-clause-present
read_move-requires-clause-present g c =
    let h : slice_get c.loop-alloc.items.items (length c.loop-alloc.nexts.items) ≡ Some c.index-n.result.now
    = reads_at c.loop-alloc.items.items (length c.loop-alloc.nexts.items) c.index-n.result.now c.index-n.result.now (grind arith) (sym (grind arith)) in
    moves_within c.args.graph.now.outs (at c.args.current.now c.index-n.result.now) c.index-n.result.now (c.loop-alloc.invariant.3 (length c.loop-alloc.nexts.items) c.index-n.result.now h)

pub read_move-requires-clause-place : goal.read_move-requires-clause-place
read_move-requires-clause-place g c =
    let h : slice_get c.loop-alloc.items.items (length c.loop-alloc.nexts.items) ≡ Some c.index-n.result.now
    = reads_at c.loop-alloc.items.items (length c.loop-alloc.nexts.items) c.index-n.result.now c.index-n.result.now (grind arith) (sym (grind arith)) in
    c.loop-alloc.invariant.3 (length c.loop-alloc.nexts.items) c.index-n.result.now h

pub name_all-requires-clause-within : goal.name_all-requires-clause-within
name_all-requires-clause-within g c = λ y m.
    let r : c.as_slice.result.now ≡ next_of c.args.graph.now.outs c.args.current.now c.index-n.result.now = c.as_slice.ensures ∙ c.in_ok-row.ensures.row in
    let w = into_within c.args.graph.now.outs c.args.graph.now.intos c.requires.into (record { node = c.index-n.result.now; place = at c.args.current.now c.index-n.result.now }) y
    (subst (λ (z : List ℕ). Among z y) r m) in
    let s = c.loop-alloc.invariant.2 in omega arith

pub loop-alloc-smaller-in_ok-push : goal.loop-alloc-smaller-in_ok-push
loop-alloc-smaller-in_ok-push g c =
    less_left c.args.graph.now.outs c.loop-alloc.items.items c.loop-alloc.places.items c.loop-alloc.nexts.items _ _ c.loop-alloc.invariant.1 c.loop-alloc.invariant.2
    (grind arith) c.in_ok-push.ensures.items

pub loop-alloc-preserved-in_ok-push : goal.loop-alloc-preserved-in_ok-push
loop-alloc-preserved-in_ok-push g c =
    let e = c.in_ok-next.ensures in
    let is : c.index-n.result.now ≡ slice_index_or c.loop-alloc.items.items (length c.loop-alloc.nexts.items) c.index-n.result.now = grind arith in
    let r : c.as_slice.result.now ≡ next_of c.args.graph.now.outs c.args.current.now c.index-n.result.now = c.as_slice.ensures ∙ c.in_ok-row.ensures.row in
    let many : c.read_move.new.steps ≡ c.loop-alloc.steps + length (next_of c.args.graph.now.outs c.args.current.now c.index-n.result.now) + 1
    = c.in_ok-row.ensures.steps ∙ ap (λ (z : List ℕ). c.loop-alloc.steps + length z + 1) c.in_ok-row.ensures.row in
    goes_on c.args.graph.now.outs c.args.current.now c.requires.left c.loop-alloc.items.items c.loop-alloc.nexts.items c.loop-alloc.places.items c.index-n.result.now c.name_all.new.items.items
    c.in_ok-next.next c.push.new.self.items c.name_all.new.places.items _ _ _
    c.loop-alloc.invariant (grind arith) is
    (subst (λ (z : List ℕ). AreNamed c.loop-alloc.items.items z c.name_all.new.items.items c.in_ok-next.next) r e.named) e.placed e.size c.in_ok-push.ensures.items many

pub loop-alloc-smaller : goal.loop-alloc-smaller
loop-alloc-smaller g c =
    less_left c.args.graph.now.outs c.loop-alloc.items.items c.loop-alloc.places.items c.loop-alloc.nexts.items _ _ c.loop-alloc.invariant.1 c.loop-alloc.invariant.2
    (grind arith) c.in_ok-push.ensures.items

pub loop-alloc-preserved : goal.loop-alloc-preserved
loop-alloc-preserved g c =
    let e = c.in_ok-next.ensures in
    let is : c.index-n.result.now ≡ slice_index_or c.loop-alloc.items.items (length c.loop-alloc.nexts.items) c.index-n.result.now = grind arith in
    let r : c.as_slice.result.now ≡ next_of c.args.graph.now.outs c.args.current.now c.index-n.result.now = c.as_slice.ensures ∙ c.in_ok-row.ensures.row in
    let many : c.read_move.new.steps ≡ c.loop-alloc.steps + length (next_of c.args.graph.now.outs c.args.current.now c.index-n.result.now) + 1
    = c.in_ok-row.ensures.steps ∙ ap (λ (z : List ℕ). c.loop-alloc.steps + length z + 1) c.in_ok-row.ensures.row in
    goes_on c.args.graph.now.outs c.args.current.now c.requires.left c.loop-alloc.items.items c.loop-alloc.nexts.items c.loop-alloc.places.items c.index-n.result.now c.name_all.new.items.items
    c.in_ok-next.next c.push.new.self.items c.name_all.new.places.items _ _ _
    c.loop-alloc.invariant (grind arith) is
    (subst (λ (z : List ℕ). AreNamed c.loop-alloc.items.items z c.name_all.new.items.items c.in_ok-next.next) r e.named) e.placed e.size c.in_ok-push.ensures.items many

pub returns-clause-bounded : goal.returns-clause-bounded
returns-clause-bounded g c =
    let f = placed_few c.loop-alloc.items.items c.loop-alloc.places.items c.loop-alloc.invariant.1 in
    let s = c.loop-alloc.invariant.2 in omega arith
