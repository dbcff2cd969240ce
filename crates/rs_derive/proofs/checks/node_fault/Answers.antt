use Rattle.std.proofs.Common.{rules, ◌∙◌}
use Rattle.rs_derive.proofs.Loops.{read_at}
use Rattle.rs_derive.proofs.Order.{node_row}
use Rattle.rs_derive.proofs.checks.node_fault.Goals as goal

pub returns : goal.returns
returns c =
    let s = c.in-Some.ensures.lookup in
    let t = c.in-Some-get.ensures.lookup in
    c.next_fault.ensures
    ∙ node_row c.args.derivation.now c.args.sub.now c.args.above.now c.args.number c.args.node.now c.in-Some.state.now c.in-Some-get.there.now
    c.deref-3.result.now (search rules)
    (read_at c.deref.result.now c.args.sub.now.states c.node.inside.state c.args.node.now.state c.in-Some.state.now s.1 s.3.0 (search rules) (search rules))
    (read_at c.deref-2.result.now c.args.above.now.states c.node.inside.above c.args.node.now.above c.in-Some-get.there.now t.1 t.3.0 (search rules) (search rules))
    (search rules)
