use Rattle.std.proofs.Common.{rules, arith, ◌≡◌, ◌+◌, ◌∙◌, ◌∷◌, [], List, ℕ, length, ap, length-append}
use Rattle.rs_graph.proofs.Following.{leaving_count, leaving_on, leaving_there}
use Rattle.rs_graph.proofs.cycles.leave.Goals as goal

pub index_mut-requires : goal.index_mut-requires
index_mut-requires c =
    let t = leaving_there c.args.marks.now.items c.args.path.now.items c.loop-path.marks.items c.loop-path.path.items c.pop.new.self.items c.args.round c.in-Some.x c.in-Some.ensures.items
    c.requires.on c.loop-path.invariant.0 in
    let h = t.1 in search (rules, h)

pub loop-path-preserved : goal.loop-path-preserved
loop-path-preserved c =
    let e = c.in-Some.ensures.items in
    let t = leaving_there c.args.marks.now.items c.args.path.now.items c.loop-path.marks.items c.loop-path.path.items c.pop.new.self.items c.args.round c.in-Some.x e c.requires.on
    c.loop-path.invariant.0 in
    let l : length c.loop-path.path.items ≡ length c.pop.new.self.items + 1 = ap (λ (z : List ℕ). length z) e ∙ (let k = length-append c.pop.new.self.items (c.in-Some.x ∷ []) in omega arith) in (
      leaving_on c.args.marks.now.items c.args.path.now.items c.loop-path.marks.items c.loop-path.path.items c.pop.new.self.items c.args.round c.in-Some.x e t.1 c.loop-path.invariant.0,
      grind (arith, l, c.loop-path-test.true, c.len.ensures),
      leaving_count c.args.marks.now.items c.args.path.now.items c.loop-path.marks.items c.loop-path.path.items c.args.round c.in-Some.x (length c.pop.new.self.items) t.0 c.loop-path.invariant.0
          ∙ c.loop-path.invariant.2,
    )
