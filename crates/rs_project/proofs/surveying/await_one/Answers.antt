use Rattle.std.proofs.Common.{rules, arith, ◌≡◌, ◌<◌, Bool, false, length, sym, subst, ◌∙◌}
use Rattle.std.proofs.lemmas.Bool.{false≢true}
use Rattle.std.proofs.lemmas.Option.{same_Some}
use Rattle.rs_model.specs.declared.graph.Node.{Node}
use Rattle.rs_project.specs.Awaited.{MarksNode}
use Rattle.rs_project.specs.Marks.{arms_of_node, leads_on}
use Rattle.rs_project.proofs.Awaiting.{reached_node}
use Rattle.rs_project.proofs.Flags.{set_unmarked}
use Rattle.rs_project.proofs.Lists.{read_via}
use Rattle.rs_project.proofs.Surveys.{marked_node}
use Rattle.rs_project.proofs.surveying.await_one.Goals as goal

pub returns-then-mark_passing-clause-marked : goal.returns-then-mark_passing-clause-marked
returns-then-mark_passing-clause-marked c = λ role involved m.
    let n = c.args.number in
    let pr = c.args.protocol.now in
    let node = c.index.result.now in
    let w : n < length c.args.awaited.now = (let h = c.requires.node in let s = c.requires.sizes.awaited_size in omega (arith, h, s)) in
    marked_node pr role 0 involved c.args.awaited.now c.args.passing.now c.args.ends.now c.mark_passing.new.awaited c.mark_passing.new.passing c.mark_passing.new.ends n node c.args.by_all
    c.requires.well_formed (omega arith) w
    (let h = c.requires.node in let s = c.requires.sizes.passing_size in omega (arith, h, s))
    (search (rules, c.if-awaited-number.false))
    (read_via pr.nodes c.protocol.inside.nodes.items n node (search rules) c.requires.node c.index.ensures)
    (λ next _. omega arith) (c.mark_passing.ensures.marks c.if-mark_passing.true) m

pub returns-then-mark_passing-clause-less : goal.returns-then-mark_passing-clause-less
returns-then-mark_passing-clause-less c = λ _.
    let n = c.args.number in
    let w : n < length c.args.awaited.now = (let h = c.requires.node in let s = c.requires.sizes.awaited_size in omega (arith, h, s)) in
    let u = set_unmarked c.args.awaited.now n w (search (rules, c.if-awaited-number.false)) in
    rw (c.mark_passing.ensures.marks c.if-mark_passing.true).is_awaited (omega (arith, u))

pub returns-then-mark_passing-clause-rounds : goal.returns-then-mark_passing-clause-rounds
returns-then-mark_passing-clause-rounds c = λ e role none.
    let n = c.args.number in
    let pr = c.args.protocol.now in
    let node = c.index.result.now in
    let P : Bool → Type 0 = λ z. MarksNode (arms_of_node node) n z c.args.awaited.now c.args.passing.now c.args.ends.now c.mark_passing.new.awaited c.mark_passing.new.passing c.mark_passing.new.ends in
    reached_node pr role c.args.awaited.now c.args.passing.now c.args.ends.now c.mark_passing.new.awaited c.mark_passing.new.passing c.mark_passing.new.ends n node
    (read_via pr.nodes c.protocol.inside.nodes.items n node (search rules) c.requires.node c.index.ensures)
    (subst P e (c.mark_passing.ensures.marks c.if-mark_passing.true)) none

pub returns-clause-settled : goal.returns-clause-settled
returns-clause-settled c = λ _ some node is leads.
    let n = c.args.number in
    let pr = c.args.protocol.now in
    let here = read_via pr.nodes c.protocol.inside.nodes.items n c.index.result.now (search rules) c.requires.node c.index.ensures in
    let same : node ≡ c.index.result.now = same_Some node c.index.result.now (sym is ∙ here) in
    let P : Node → Type 0 = λ z. leads_on c.args.awaited.now z ≡ false in
    false≢true (sym (subst P (sym same) (c.mark_passing.ensures.none c.if-mark_passing.false some)) ∙ leads)
