use Rattle.std.proofs.Common.{arith, ◌≡◌, ◌∙◌, Some, slice_get, ap, sym}
use Rattle.rs_graph.specs.declared.cycles.NodeMark.TheVariants.{Known}
use Rattle.rs_graph.proofs.Growth.{reads_at}
use Rattle.rs_graph.proofs.Following.{known_then}
use Rattle.rs_graph.proofs.cycles.is_on_cycle.Goals as goal

pub unreachable-requires : goal.unreachable-requires
unreachable-requires c =
    let e = c.in_ok-come_to.ensures in
    let is : slice_get c.come_to.new.search.marks.items c.args.v ≡ Some c.index.result.now
    = reads_at c.come_to.new.search.marks.items c.args.v c.index.result.now c.index.result.now (let s = e.resting.searching.right.size in let t = c.requires.present in omega arith)
    (sym c.index.ensures) in
    known_then c.args.rows.now c.come_to.new.search.marks.items c.come_to.new.search.path.items c.args.v c.index.result.now e.resting.searching.right e.resting.none e.come is c.in-Ahead.is

pub returns-clause-yes : goal.returns-clause-yes
returns-clause-yes c = λ yes.
    let e = c.in_ok-come_to.ensures in
    let is : slice_get c.come_to.new.search.marks.items c.args.v ≡ Some c.index.result.now
    = reads_at c.come_to.new.search.marks.items c.args.v c.index.result.now c.index.result.now (let s = e.resting.searching.right.size in let t = c.requires.present in omega arith)
    (sym c.index.ensures) in
    e.resting.searching.right.yes c.args.v (is ∙ ap Some (c.in-Known.is ∙ ap Known yes))

pub returns-clause-no : goal.returns-clause-no
returns-clause-no c = λ out.
    let e = c.in_ok-come_to.ensures in
    let is : slice_get c.come_to.new.search.marks.items c.args.v ≡ Some c.index.result.now
    = reads_at c.come_to.new.search.marks.items c.args.v c.index.result.now c.index.result.now (let s = e.resting.searching.right.size in let t = c.requires.present in omega arith)
    (sym c.index.ensures) in
    e.resting.searching.right.not c.args.v (is ∙ ap Some (c.in-Known.is ∙ ap Known out))
