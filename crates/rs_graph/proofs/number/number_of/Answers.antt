use Rattle.std.proofs.Common.{rules, arith, ◌≡◌, [], ◌∷◌, ◌++◌, Some, None, length, slice_get, sym, ◌∙◌, ap}
use Rattle.rs_graph.proofs.Growth.{reads_at, named_known, named_new}
use Rattle.rs_graph.proofs.Placing.{placed_not, placed_on, placed_fewer}
use Rattle.rs_graph.proofs.number.number_of.Goals as goal

pub overflow_cast-n : goal.overflow_cast-n
overflow_cast-n c =
    let e : slice_get c.args.places.now.items c.args.y ≡ Some None
    = reads_at c.args.places.now.items c.args.y c.index.result.now c.index.result.now c.requires.present (sym c.index.ensures) ∙ ap Some c.in-None.is in
    let f = placed_fewer c.args.items.now.items c.args.places.now.items c.args.y c.requires.present c.requires.placed e in
    let l : c.len-n.result ≡ length c.args.items.now.items = grind (arith, c.len-n.ensures) in
    grind (arith, f, c.requires.bounded)

pub overflow_cast-result : goal.overflow_cast-result
overflow_cast-result c =
    let e : slice_get c.args.places.now.items c.args.y ≡ Some None
    = reads_at c.args.places.now.items c.args.y c.index.result.now c.index.result.now c.requires.present (sym c.index.ensures) ∙ ap Some c.in-None.is in
    let f = placed_fewer c.args.items.now.items c.args.places.now.items c.args.y c.requires.present c.requires.placed e in
    let l : c.len-n.result ≡ length c.args.items.now.items = grind (arith, c.len-n.ensures) in
    grind (arith, f, c.requires.bounded)

pub returns-in-Some-clause-named : goal.returns-in-Some-clause-named
returns-in-Some-clause-named c =
    let items = c.args.items.now.items in
    let e : slice_get c.args.places.now.items c.args.y ≡ Some (Some c.in-Some.n)
    = reads_at c.args.places.now.items c.args.y c.index.result.now c.index.result.now c.requires.present (sym c.index.ensures) ∙ ap Some c.in-Some.is in
    named_known items c.args.y c.in-Some.n (c.requires.placed.from c.args.y c.in-Some.n e)

pub returns-in_ok-push-in-None-clause-named : goal.returns-in_ok-push-in-None-clause-named
returns-in_ok-push-in-None-clause-named c =
    let e : slice_get c.args.places.now.items c.args.y ≡ Some None
    = reads_at c.args.places.now.items c.args.y c.index.result.now c.index.result.now c.requires.present (sym c.index.ensures) ∙ ap Some c.in-None.is in
    let p : c.push.new.self.items ≡ c.args.items.now.items ++ c.args.y ∷ [] = search rules in
    let l : c.len-n.result ≡ length c.args.items.now.items = grind (arith, c.len-n.ensures) in
    named_new c.args.items.now.items c.push.new.self.items c.args.y c.len-n.result (placed_not c.args.items.now.items c.args.places.now.items c.args.y c.requires.placed e) p l

pub returns-in_ok-push-in-None-clause-placed : goal.returns-in_ok-push-in-None-clause-placed
returns-in_ok-push-in-None-clause-placed c =
    let e : slice_get c.args.places.now.items c.args.y ≡ Some None
    = reads_at c.args.places.now.items c.args.y c.index.result.now c.index.result.now c.requires.present (sym c.index.ensures) ∙ ap Some c.in-None.is in
    let p : c.push.new.self.items ≡ c.args.items.now.items ++ c.args.y ∷ [] = search rules in
    let l : c.len-n.result ≡ length c.args.items.now.items = grind (arith, c.len-n.ensures) in
    placed_on c.args.items.now.items c.push.new.self.items c.args.places.now.items c.args.y c.len-n.result c.requires.present p l c.requires.placed e
