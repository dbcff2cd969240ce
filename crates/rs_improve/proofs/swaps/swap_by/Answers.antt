use Rattle.std.proofs.Common.{arith, ◌≡◌, ◌∙◌, ap, sym, subst, List, length, slice_get, Some, ℕ}
use Rattle.rs_graph.specs.Lists.{Among}
use Rattle.rs_graph.specs.Naming.{AreNamed, Grown}
use Rattle.rs_graph.proofs.Growth.{reads_at}
use Rattle.rs_improve.specs.Swaps.{state_to, swapped_state}
use Rattle.rs_improve.specs.declared.swaps.SwappedState.{SwappedState}
use Rattle.rs_improve.proofs.Finding.{found_has_slot, made_none, made_on, made_too_many, names_length, slot_in}
use Rattle.rs_improve.proofs.Leading.{nexts_have_slots, nexts_length}
use Rattle.rs_improve.proofs.swaps.swap_by.Goals as goal

pub loop-alloc-init : goal.loop-alloc-init
loop-alloc-init c =
    let e = c.in_ok-found.ensures in (
      made_none c.args.machine.now c.args.x.now c.in_ok-found.found.items.items c.new-states.result.items e.items c.new-states.ensures.items,
      (let l = ap (λ (z : List SwappedState). length z) e.items in omega arith),
      e.filed,
      e.olds,
      e.news,
    )

pub nexts_of-requires-clause-present : goal.nexts_of-requires-clause-present
nexts_of-requires-clause-present c =
    let h : slice_get c.loop-alloc.found.items.items (length c.loop-alloc.states.items) ≡ Some c.index-state.result.now
    = reads_at c.loop-alloc.found.items.items (length c.loop-alloc.states.items) c.index-state.result.now c.index-state.result.now (grind arith) (sym (grind arith)) in
    let i = c.loop-alloc.invariant in
    slot_in _ _ _ _ c.index-state.result.now (sym i.3) (sym i.4)
    (found_has_slot c.loop-alloc.found.items.items c.loop-alloc.found.olds.items c.loop-alloc.found.news.items (length c.loop-alloc.states.items) c.index-state.result.now i.2 h)

pub name_all-requires-clause-slots : goal.name_all-requires-clause-slots
name_all-requires-clause-slots c = λ s m.
    let i = c.loop-alloc.invariant in
    slot_in _ _ _ _ s i.3 i.4
    (nexts_have_slots c.args.machine.now c.args.x.now c.index-state.result.now c.requires.proper s (subst (λ (z : List SwappedState). Among z s) (c.deref.ensures.value ∙ c.in_ok-nexts.ensures) m))

pub returns-in-None : goal.returns-in-None
returns-in-None c =
    let h : slice_get c.loop-alloc.found.items.items (length c.loop-alloc.states.items) ≡ Some c.index-state.result.now
    = reads_at c.loop-alloc.found.items.items (length c.loop-alloc.states.items) c.index-state.result.now c.index-state.result.now (grind arith) (sym (grind arith)) in
    let n = rw c.in-None.is at c.in_ok-row.ensures.named in
    made_too_many c.args.machine.now c.args.x.now c.loop-alloc.found.items.items c.name_all.new.found.items.items c.loop-alloc.states.items c.index-state.result.now _ c.requires.least
    c.loop-alloc.invariant.0 h
    (subst (λ (z : List SwappedState). Grown c.loop-alloc.found.items.items z c.name_all.new.found.items.items) (c.deref.ensures.value ∙ c.in_ok-nexts.ensures) n.0) n.1

pub state_of-requires-clause-present : goal.state_of-requires-clause-present
state_of-requires-clause-present c =
    let h : slice_get c.loop-alloc.found.items.items (length c.loop-alloc.states.items) ≡ Some c.index-state.result.now
    = reads_at c.loop-alloc.found.items.items (length c.loop-alloc.states.items) c.index-state.result.now c.index-state.result.now (grind arith) (sym (grind arith)) in
    let i = c.loop-alloc.invariant in
    slot_in _ _ _ _ c.index-state.result.now (sym i.3) (sym i.4)
    (found_has_slot c.loop-alloc.found.items.items c.loop-alloc.found.olds.items c.loop-alloc.found.news.items (length c.loop-alloc.states.items) c.index-state.result.now i.2 h)

pub state_of-requires-clause-size : goal.state_of-requires-clause-size
state_of-requires-clause-size c =
    let n = rw c.in-Some.is at c.in_ok-row.ensures.named in
    ap (λ (z : List ℕ). length z) c.as_slice.ensures ∙ names_length c.name_all.new.found.items.items c.in-Some.row c.deref.result.now n.0.names
    ∙ ap (λ (z : List SwappedState). length z) (c.deref.ensures.value ∙ c.in_ok-nexts.ensures) ∙ nexts_length c.args.machine.now c.args.x.now c.index-state.result.now

pub loop-alloc-preserved : goal.loop-alloc-preserved
loop-alloc-preserved c =
    let h : slice_get c.loop-alloc.found.items.items (length c.loop-alloc.states.items) ≡ Some c.index-state.result.now
    = reads_at c.loop-alloc.found.items.items (length c.loop-alloc.states.items) c.index-state.result.now c.index-state.result.now (grind arith) (sym (grind arith)) in
    let i = c.loop-alloc.invariant in
    let e = c.in_ok-row.ensures in
    let n = rw c.in-Some.is at e.named in (
      made_on c.args.machine.now c.args.x.now c.loop-alloc.found.items.items c.name_all.new.found.items.items c.loop-alloc.states.items c.push.new.self.items c.index-state.result.now
          c.in_ok-swapped.swapped c.in-Some.row i.0 h
          (subst (λ (z : List SwappedState). AreNamed c.loop-alloc.found.items.items z c.name_all.new.found.items.items c.in-Some.row) (c.deref.ensures.value ∙ c.in_ok-nexts.ensures) n.0)
          (c.in_ok-swapped.ensures ∙ ap (λ (z : List ℕ). state_to (swapped_state c.args.machine.now c.args.x.now c.index-state.result.now) z) c.as_slice.ensures) c.in_ok-push.ensures.items,
      n.1,
      e.filed,
      e.olds ∙ i.3,
      e.news ∙ i.4,
    )
