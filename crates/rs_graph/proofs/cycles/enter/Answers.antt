use Rattle.std.proofs.Common.{rules, arith}
use Rattle.rs_graph.specs.declared.cycles.NodeMark.TheVariants.{Ahead}
use Rattle.rs_graph.proofs.Buckets.{the_row}
use Rattle.rs_graph.proofs.Following.{entered_as, entering_less, goes_on, not_ahead, path_few}
use Rattle.rs_graph.proofs.Growth.{at_short}
use Rattle.rs_graph.proofs.cycles.enter.Goals as goal

pub overflow_cast-start : goal.overflow_cast-start
overflow_cast-start c =
    let f = path_few c.args.rows.now c.args.search.now.marks.items c.args.search.now.path.items c.requires.searching.right in grind (arith, f, c.requires.nodes, c.len-start.ensures)

pub index_mut-requires : goal.index_mut-requires
index_mut-requires c = let h = at_short c.args.search.now.marks.items c.args.y Ahead c.requires.new in search (rules, h)

pub bounds-rows-y : goal.bounds-rows-y
bounds-rows-y c = let h = at_short c.args.search.now.marks.items c.args.y Ahead c.requires.new in let s = c.requires.searching.right.size in omega arith

pub returns-clause-searching : goal.returns-clause-searching
returns-clause-searching c =
    let h = at_short c.args.search.now.marks.items c.args.y Ahead c.requires.new in
    let er = the_row c.args.rows.now c.args.y c.as_slice.result.now c.index-rows-y.result (let s = c.requires.searching.right.size in omega arith) c.as_slice.ensures c.index-rows-y.is in
    entered_as c.args.rows.now c.args.search.now.marks.items c.args.search.now.path.items c.push.new.self.items c.args.search.now.edges.items c.extend_from_slice.new.self.items
    c.as_slice.result.now c.args.search.now.parts.items c.push-2.new.self.items
    c.args.y c.len-start.result c.len-edges.result c.requires.new er c.requires.led (search rules) (search rules) (search rules) (search rules) (search rules) c.requires.searching

pub returns-clause-less : goal.returns-clause-less
returns-clause-less c =
    let h = at_short c.args.search.now.marks.items c.args.y Ahead c.requires.new in
    let er = the_row c.args.rows.now c.args.y c.as_slice.result.now c.index-rows-y.result (let s = c.requires.searching.right.size in omega arith) c.as_slice.ensures c.index-rows-y.is in
    entering_less c.args.rows.now c.args.search.now.marks.items c.args.search.now.edges.items c.extend_from_slice.new.self.items c.as_slice.result.now c.args.search.now.parts.items
    c.push-2.new.self.items c.args.y c.len-start.result c.requires.new er (search rules) (search rules)

pub returns-clause-on : goal.returns-clause-on
returns-clause-on c = goes_on c.args.search.now.marks.items c.args.y c.len-start.result c.requires.new

pub returns-clause-here : goal.returns-clause-here
returns-clause-here c = not_ahead c.args.search.now.marks.items c.args.y c.len-start.result c.requires.new
