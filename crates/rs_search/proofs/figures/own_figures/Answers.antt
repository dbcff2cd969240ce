use Rattle.std.proofs.Common.{rules, ◌≡◌, ◌≤◌, List, length, arith, slice_get, Some, sym, subst}
use Rattle.rs_model.specs.declared.machines.State.{State}
use Rattle.rs_graph.proofs.Growth.{reads_at}
use Rattle.rs_search.proofs.Figured.{figured, too_many_own}
use Rattle.rs_search.proofs.OwnSpots.{count_all, count_on, flag, flag_kept, flag_new, owes_all, owes_on, own_spots}
use Rattle.rs_search.proofs.figures.own_figures.Goals as goal
use Rattle.rs_search.proofs.figures.own_figures.Goals.{then-owes, else-owes}

pub returns-then-owing-nodes-clause-none : goal.returns-then-owing-nodes-clause-none
returns-then-owing-nodes-clause-none c =
    let m = c.args.machine.now in
    let i = c.loop-state.invariant in
    let k = c.loop-state.state-index in
    let st = c.state-item.result in
    let read : c.deref-state-items.result.now ≡ m.states = search rules in
    let here : slice_get m.states k ≡ Some st
    = subst (λ (z : List State). slice_get z k ≡ Some st) read (reads_at c.deref-state-items.result.now k st st c.loop-state-test.true (sym c.state-item.is)) in
    let n = count_on m.states k st c.loop-state.nodes c.count_owing-owing.result (length (own_spots 0 m.states)) here (c.count_owing-owing.ensures k) i.1 in
    let over = c.if-owing-nodes.true in
    let few = i.0 in
    too_many_own m c.requires.proper c.requires.order (omega arith)

pub loop-state-preserved : goal.loop-state-preserved
loop-state-preserved c =
    let m = c.args.machine.now in
    let i = c.loop-state.invariant in
    let k = c.loop-state.state-index in
    let st = c.state-item.result in
    let read : c.deref-state-items.result.now ≡ m.states = search rules in
    let here : slice_get m.states k ≡ Some st
    = subst (λ (z : List State). slice_get z k ≡ Some st) read (reads_at c.deref-state-items.result.now k st st c.loop-state-test.true (sym c.state-item.is)) in
    let owing = c.count_owing-owing.ensures k in
    let fits = c.if-owing-nodes.false in (
      omega arith,
      count_on m.states k st c.loop-state.nodes c.count_owing-owing.result (length (own_spots 0 m.states)) here owing i.1,
      owes_on m.states k st (flag c.loop-state.owes) (flag c.if-owes.owes) _ here
          (elim c.if-owes.branch [
            | then-owes w ↦ flag_kept k st c.loop-state.owes c.if-owes.owes w.if-owes.true w.owes-is
            | else-owes w ↦ flag_new k st c.count_owing-owing.result c.loop-state.owes c.if-owes.owes w.if-owes.false w.owes-is owing
          ])
          i.2,
    )

pub returns-clause-some : goal.returns-clause-some
returns-clause-some c =
    let m = c.args.machine.now in
    let i = c.loop-state.invariant in
    let k = c.loop-state.state-index in
    let read : c.deref-state-items.result.now ≡ m.states = search rules in
    let done : length m.states ≤ k = subst (λ (z : List State). length z ≤ k) read c.loop-state-test.false in
    let few = i.0 in
    let count = count_all m.states k c.loop-state.nodes (length (own_spots 0 m.states)) done i.1 in
    figured m c.requires.proper c.requires.order _ (omega arith) count (owes_all m.states k (flag c.loop-state.owes) _ done i.2)
