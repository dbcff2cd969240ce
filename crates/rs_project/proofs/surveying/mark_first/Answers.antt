use Rattle.std.proofs.Common.{rules, arith, true, length, length-set, set, refl, sym, ◌∙◌}
use Rattle.rs_project.proofs.Awaiting.{behind_flagged, reached_node, reached_own}
use Rattle.rs_project.proofs.Flags.{off_flag}
use Rattle.rs_project.proofs.Lists.{read_via}
use Rattle.rs_project.proofs.Spread.{leads_within}
use Rattle.rs_project.proofs.Surveys.{involves_by, marked_node, marked_other, marked_own}
use Rattle.rs_project.proofs.surveying.mark_first.Goals as goal

pub returns-then-involves-clause-marked : goal.returns-then-involves-clause-marked
returns-then-involves-clause-marked c =
    let n = c.args.number in
    let pr = c.args.protocol.now in
    let node = c.index-node.result.now in
    let here = read_via pr.nodes c.protocol.inside.nodes.items n node (search rules) c.requires.node c.index-node.ensures in
    marked_own pr c.args.role c.args.involved.now c.args.awaited.now c.args.passing.now c.args.ends.now n c.requires.node
    (let h = c.requires.node in let s = c.requires.involved_size in omega (arith, h, s))
    (let h = c.requires.node in let s = c.requires.sizes.awaited_size in omega (arith, h, s))
    (involves_by pr c.args.role n node here (sym c.involves.ensures ∙ c.if-involves.true))
    c.requires.marked

pub returns-then-involves-clause-reached : goal.returns-then-involves-clause-reached
returns-then-involves-clause-reached c =
    let n = c.args.number in
    let pr = c.args.protocol.now in
    let node = c.index-node.result.now in
    let here = read_via pr.nodes c.protocol.inside.nodes.items n node (search rules) c.requires.node c.index-node.ensures in
    reached_own pr c.args.role c.args.awaited.now n (involves_by pr c.args.role n node here (sym c.involves.ensures ∙ c.if-involves.true)) c.requires.reached

pub mark_passing-requires-clause-flagged : goal.mark_passing-requires-clause-flagged
mark_passing-requires-clause-flagged c =
    let pr = c.args.protocol.now in
    leads_within pr c.args.number c.index-node.result.now (length c.args.awaited.now) c.requires.well_formed
    (read_via pr.nodes c.protocol.inside.nodes.items c.args.number c.index-node.result.now (search rules) c.requires.node c.index-node.ensures)
    c.requires.sizes.awaited_size

pub mark_passing-requires-clause-run : goal.mark_passing-requires-clause-run
mark_passing-requires-clause-run c =
    let pr = c.args.protocol.now in
    leads_within pr c.args.number c.index-node.result.now (length (set c.args.ends.now c.args.number c.args.number)) c.requires.well_formed
    (read_via pr.nodes c.protocol.inside.nodes.items c.args.number c.index-node.result.now (search rules) c.requires.node c.index-node.ensures)
    (length-set c.args.ends.now c.args.number c.args.number ∙ c.requires.sizes.ends_size)

pub returns-then-mark_passing-clause-marked : goal.returns-then-mark_passing-clause-marked
returns-then-mark_passing-clause-marked c =
    let n = c.args.number in
    let pr = c.args.protocol.now in
    let node = c.index-node.result.now in
    let awaited = c.args.awaited.now in
    let ends = set c.args.ends.now n n in
    let here = read_via pr.nodes c.protocol.inside.nodes.items n node (search rules) c.requires.node c.index-node.ensures in
    let marks = c.mark_passing.ensures.marks c.if-mark_passing.true in
    let before = c.requires.marked in
    marked_node pr c.args.role n c.args.involved.now awaited c.args.passing.now ends c.mark_passing.new.awaited c.mark_passing.new.passing c.mark_passing.new.ends n node true
    c.requires.well_formed (omega arith)
    (let h = c.requires.node in let s = c.requires.sizes.awaited_size in omega (arith, h, s))
    (let h = c.requires.node in let s = c.requires.sizes.passing_size in omega (arith, h, s))
    (off_flag awaited n (λ on. (let l = before.later n on in omega (arith, l))))
    here
    (λ next m. (let l = before.later next (behind_flagged pr awaited n next node here (marks.all refl) m) in omega (arith, l)))
    marks
    (marked_other pr c.args.role c.args.involved.now awaited c.args.passing.now c.args.ends.now n node c.requires.node here (sym c.involves.ensures ∙ c.if-involves.false) before)

pub returns-then-mark_passing-clause-reached : goal.returns-then-mark_passing-clause-reached
returns-then-mark_passing-clause-reached c =
    let n = c.args.number in
    let pr = c.args.protocol.now in
    let node = c.index-node.result.now in
    let here = read_via pr.nodes c.protocol.inside.nodes.items n node (search rules) c.requires.node c.index-node.ensures in
    reached_node pr c.args.role c.args.awaited.now c.args.passing.now (set c.args.ends.now n n) c.mark_passing.new.awaited c.mark_passing.new.passing c.mark_passing.new.ends n node here
    (c.mark_passing.ensures.marks c.if-mark_passing.true) c.requires.reached

pub returns-clause-marked : goal.returns-clause-marked
returns-clause-marked c =
    let n = c.args.number in
    let pr = c.args.protocol.now in
    let node = c.index-node.result.now in
    let here = read_via pr.nodes c.protocol.inside.nodes.items n node (search rules) c.requires.node c.index-node.ensures in
    let m = marked_other pr c.args.role c.args.involved.now c.args.awaited.now c.args.passing.now c.args.ends.now n node c.requires.node here (sym c.involves.ensures ∙ c.if-involves.false) c.requires.marked in
    rw (c.mark_passing.ensures.awaited c.if-mark_passing.false, c.mark_passing.ensures.passing c.if-mark_passing.false, c.mark_passing.ensures.ends c.if-mark_passing.false) m
