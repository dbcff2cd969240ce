use Rattle.std.proofs.Common.{rules, arith, List, length, Bool, sym, ◌∙◌, ap, subst}
use Rattle.rs_graph.specs.Removing.{IsNextMove}
use Rattle.rs_graph.proofs.Removed.{lose_flag, lose_on, lose_last, pushed_kept, raised, index_at, same_row}
use Rattle.rs_graph.proofs.removal.lose.Goals as goal

pub returns-then-place-m-clause-keeps : goal.returns-then-place-m-clause-keeps
returns-then-place-m-clause-keeps c = λ outs k doing rest is leads g.
    lose_flag outs c.args.lost.now.items c.args.current.now.items c.args.order.now.items k c.args.m doing rest c.raise.new.self c.requires.node c.requires.place
    (raised c.args.lost.now.items c.args.m.node c.args.m.place c.raise.new.self c.index_mut.result.now c.requires.node c.raise.ensures c.index_mut.ensures.value)
    (λ e. c.if-place-m.true (sym (index_at c.args.current.now.items c.args.m.node c.index-place.result.now (omega (arith, c.requires.size, c.requires.node)) c.index-place.ensures) ∙ e)) is leads g

pub returns-in_ok-push-clause-keeps : goal.returns-in_ok-push-clause-keeps
returns-in_ok-push-clause-keeps c = λ outs k doing rest is leads g.
    lose_last outs c.args.lost.now.items c.args.current.now.items c.args.order.now.items c.push.new.self.items k c.args.m doing c.next_move-next.result rest c.raise.new.self c.requires.node
    c.requires.place c.requires.size (raised c.args.lost.now.items c.args.m.node c.args.m.place c.raise.new.self c.index_mut.result.now c.requires.node c.raise.ensures
    c.index_mut.ensures.value) (index_at c.args.current.now.items c.args.m.node c.index-place.result.now (omega (arith, c.requires.size, c.requires.node)) c.index-place.ensures
    ∙ c.if-place-m.false) (subst (λ (z : List Bool). IsNextMove z c.args.m.place c.next_move-next.result)
    (same_row c.args.lost.now.items c.args.m.node c.raise.new.self c.index-2.result.now c.as_slice-flags.result.now c.requires.node c.as_slice-flags.ensures c.index-2.ensures)
    c.next_move-next.ensures) (c.if-next-all.true
    ∙ ap (λ (z : List Bool). length z) (same_row c.args.lost.now.items c.args.m.node c.raise.new.self c.index-2.result.now c.as_slice-flags.result.now c.requires.node
    c.as_slice-flags.ensures c.index-2.ensures)) (search rules) is leads g

pub returns-in_ok-push-clause-order : goal.returns-in_ok-push-clause-order
returns-in_ok-push-clause-order c = λ j x h. pushed_kept c.args.order.now.items c.push.new.self.items c.args.m.node (search rules) j x h

pub returns-else-next-all-clause-keeps : goal.returns-else-next-all-clause-keeps
returns-else-next-all-clause-keeps c = λ outs k doing rest is leads g.
    lose_on outs c.args.lost.now.items c.args.current.now.items c.args.order.now.items k c.args.m doing c.next_move-next.result rest c.raise.new.self c.requires.node c.requires.place c.requires.size
    (raised c.args.lost.now.items c.args.m.node c.args.m.place c.raise.new.self c.index_mut.result.now c.requires.node c.raise.ensures c.index_mut.ensures.value)
    (index_at c.args.current.now.items c.args.m.node c.index-place.result.now (omega (arith, c.requires.size, c.requires.node)) c.index-place.ensures ∙ c.if-place-m.false)
    (subst (λ (z : List Bool). IsNextMove z c.args.m.place c.next_move-next.result)
    (same_row c.args.lost.now.items c.args.m.node c.raise.new.self c.index-2.result.now c.as_slice-flags.result.now c.requires.node c.as_slice-flags.ensures c.index-2.ensures)
    c.next_move-next.ensures) (λ e. c.if-next-all.false (e ∙ ap (λ (z : List Bool). length z)
    (sym (same_row c.args.lost.now.items c.args.m.node c.raise.new.self c.index-2.result.now c.as_slice-flags.result.now c.requires.node c.as_slice-flags.ensures c.index-2.ensures)))) is leads g
