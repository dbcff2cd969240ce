use Rattle.std.proofs.Common.{rules, arith, ◌≡◌, ◌≢◌, ◌<◌, ◌+◌, ◌-◌, ◌∙◌, ◌++◌, ◌∷◌, [], List, ℕ, Some, length, take, slice_get, ap, sym}
use Rattle.rs_graph.proofs.Growth.{reads_at}
use Rattle.rs_graph.proofs.Following.{edge_there, joins_begin, last_read, led_to, left_path, looked_at, ok_then, put_on, some_edges}
use Rattle.rs_graph.proofs.cycles.look.Goals as goal

pub returns-then-count-part-clause-searching : goal.returns-then-count-part-clause-searching
returns-then-count-part-clause-searching c =
    left_path c.args.rows.now c.args.search.now.marks.items c.leave.new.marks.items c.args.search.now.path.items c.leave.new.path.items c.args.search.now.edges.items c.args.search.now.parts.items
    c.args.part
    (search rules) c.requires.right c.requires.off c.leave.ensures.leaving c.leave.ensures.start

pub index-requires : goal.index-requires
index-requires c =
    let some : c.args.part.edges ≢ length c.args.search.now.edges.items = search rules in
    let more = some_edges c.args.rows.now c.args.search.now.marks.items c.args.search.now.path.items c.args.search.now.edges.items c.args.search.now.parts.items c.args.part some c.requires.off in
    let n : (c.len-count.result - 1) + 1 ≡ length c.args.search.now.edges.items = grind (arith, more, c.len-count.ensures) in
    let e = last_read c.args.search.now.edges.items (c.len-count.result - 1) c.index-y.result.now n c.index-y.ensures in
    let h = edge_there c.args.rows.now c.args.search.now.marks.items c.args.search.now.path.items c.args.search.now.edges.items
    (take (c.len-count.result - 1) c.args.search.now.edges.items) c.args.search.now.parts.items c.args.part c.index-y.result.now c.requires.within e some c.requires.off in
    let s = c.requires.right.size in
    let l : c.index-y.result.now < length c.args.search.now.marks.items = omega arith in
    search (rules, l)

pub enter-requires-clause-new : goal.enter-requires-clause-new
enter-requires-clause-new c =
    let some : c.args.part.edges ≢ length c.args.search.now.edges.items = search rules in
    let more = some_edges c.args.rows.now c.args.search.now.marks.items c.args.search.now.path.items c.args.search.now.edges.items c.args.search.now.parts.items c.args.part some c.requires.off in
    let n : (c.len-count.result - 1) + 1 ≡ length c.args.search.now.edges.items = grind (arith, more, c.len-count.ensures) in
    let e = last_read c.args.search.now.edges.items (c.len-count.result - 1) c.index-y.result.now n c.index-y.ensures in
    let h = edge_there c.args.rows.now c.args.search.now.marks.items c.args.search.now.path.items c.args.search.now.edges.items
    (take (c.len-count.result - 1) c.args.search.now.edges.items) c.args.search.now.parts.items c.args.part c.index-y.result.now c.requires.within e some c.requires.off in
    let s = c.requires.right.size in
    let l : c.index-y.result.now < length c.args.search.now.marks.items = omega arith in
    let is : slice_get c.args.search.now.marks.items c.index-y.result.now ≡ Some c.index.result.now
    = reads_at c.args.search.now.marks.items c.index-y.result.now c.index.result.now c.index.result.now l (sym c.index.ensures) in
    is ∙ ap Some c.in-Ahead.is

pub enter-requires-clause-led : goal.enter-requires-clause-led
enter-requires-clause-led c =
    let some : c.args.part.edges ≢ length c.args.search.now.edges.items = search rules in
    let more = some_edges c.args.rows.now c.args.search.now.marks.items c.args.search.now.path.items c.args.search.now.edges.items c.args.search.now.parts.items c.args.part some c.requires.off in
    let n : (c.len-count.result - 1) + 1 ≡ length c.args.search.now.edges.items = grind (arith, more, c.len-count.ensures) in
    let e = last_read c.args.search.now.edges.items (c.len-count.result - 1) c.index-y.result.now n c.index-y.ensures in
    led_to c.args.rows.now c.args.search.now.marks.items c.args.search.now.path.items c.args.search.now.edges.items
    (take (c.len-count.result - 1) c.args.search.now.edges.items) c.args.search.now.parts.items c.args.part c.index-y.result.now e some c.requires.off

pub enter-requires-clause-searching : goal.enter-requires-clause-searching
enter-requires-clause-searching c =
    put_on c.args.rows.now c.args.search.now.marks.items c.args.search.now.path.items c.args.search.now.edges.items c.push.new.self.items c.args.search.now.parts.items c.args.part
    (search rules) c.requires.right c.requires.off

pub returns-in-On-clause-searching : goal.returns-in-On-clause-searching
returns-in-On-clause-searching c =
    let some : c.args.part.edges ≢ length c.args.search.now.edges.items = search rules in
    let more = some_edges c.args.rows.now c.args.search.now.marks.items c.args.search.now.path.items c.args.search.now.edges.items c.args.search.now.parts.items c.args.part some c.requires.off in
    let n : (c.len-count.result - 1) + 1 ≡ length c.args.search.now.edges.items = grind (arith, more, c.len-count.ensures) in
    let e = last_read c.args.search.now.edges.items (c.len-count.result - 1) c.index-y.result.now n c.index-y.ensures in
    let h = edge_there c.args.rows.now c.args.search.now.marks.items c.args.search.now.path.items c.args.search.now.edges.items
    (take (c.len-count.result - 1) c.args.search.now.edges.items) c.args.search.now.parts.items c.args.part c.index-y.result.now c.requires.within e some c.requires.off in
    let s = c.requires.right.size in
    let l : c.index-y.result.now < length c.args.search.now.marks.items = omega arith in
    let is : slice_get c.args.search.now.marks.items c.index-y.result.now ≡ Some c.index.result.now
    = reads_at c.args.search.now.marks.items c.index-y.result.now c.index.result.now c.index.result.now l (sym c.index.ensures) in
    let r : c.pop.new.self.items ≡ take (c.len-count.result - 1) c.args.search.now.edges.items = search rules in
    let e' : c.args.search.now.edges.items ≡ c.pop.new.self.items ++ c.index-y.result.now ∷ [] = e ∙ ap (λ (z : List ℕ). z ++ c.index-y.result.now ∷ []) (sym r) in
    ok_then _ _ c.join.result c.join.ensures.joined
    (λ f. f c.args.rows.now c.args.search.now.marks.items c.args.search.now.path.items c.pop.new.self.items c.index-y.result.now c.requires.right (is ∙ ap Some c.in-On.is)
    (joins_begin c.args.rows.now c.args.search.now.marks.items c.args.search.now.path.items c.args.search.now.edges.items c.pop.new.self.items c.args.search.now.parts.items c.args.part
    c.index-y.result.now e' some c.requires.off))

pub returns-in_ok-push-in-Known-clause-searching : goal.returns-in_ok-push-in-Known-clause-searching
returns-in_ok-push-in-Known-clause-searching c =
    let some : c.args.part.edges ≢ length c.args.search.now.edges.items = search rules in
    let more = some_edges c.args.rows.now c.args.search.now.marks.items c.args.search.now.path.items c.args.search.now.edges.items c.args.search.now.parts.items c.args.part some c.requires.off in
    let n : (c.len-count.result - 1) + 1 ≡ length c.args.search.now.edges.items = grind (arith, more, c.len-count.ensures) in
    let e = last_read c.args.search.now.edges.items (c.len-count.result - 1) c.index-y.result.now n c.index-y.ensures in
    let h = edge_there c.args.rows.now c.args.search.now.marks.items c.args.search.now.path.items c.args.search.now.edges.items
    (take (c.len-count.result - 1) c.args.search.now.edges.items) c.args.search.now.parts.items c.args.part c.index-y.result.now c.requires.within e some c.requires.off in
    let s = c.requires.right.size in
    let l : c.index-y.result.now < length c.args.search.now.marks.items = omega arith in
    let is : slice_get c.args.search.now.marks.items c.index-y.result.now ≡ Some c.index.result.now
    = reads_at c.args.search.now.marks.items c.index-y.result.now c.index.result.now c.index.result.now l (sym c.index.ensures) in
    let r : c.pop-in-Known.new.self.items ≡ take (c.len-count.result - 1) c.args.search.now.edges.items = search rules in
    let e' : c.args.search.now.edges.items ≡ c.pop-in-Known.new.self.items ++ c.index-y.result.now ∷ [] = e ∙ ap (λ (z : List ℕ). z ++ c.index-y.result.now ∷ []) (sym r) in
    put_on c.args.rows.now c.args.search.now.marks.items c.args.search.now.path.items c.pop-in-Known.new.self.items c.push-in-Known.new.self.items c.args.search.now.parts.items c.args.part
    (search rules) c.requires.right
    (looked_at c.args.rows.now c.args.search.now.marks.items c.args.search.now.path.items c.args.search.now.edges.items c.pop-in-Known.new.self.items c.args.search.now.parts.items c.args.part
    c.index-y.result.now e' some
    (c.in-Known.round, is ∙ ap Some c.in-Known.is) c.requires.off)
