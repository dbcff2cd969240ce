use Rattle.std.proofs.Common.{◌≡◌, ◌<◌, ◌++◌, ◌∷◌, [], ◌∙◌, ap, sym, refl, List, length, slice_index_or, map, take}
use Rattle.rs_model.specs.Data.{Machine_data}
use Rattle.rs_model.specs.declared.graph.Arm.{Arm}
use Rattle.rs_model.specs.declared.machines.State.{State}
use Rattle.rs_model.specs.declared.values.Sort.TheVariants as sort
use Rattle.rs_graph.proofs.Growth.{reads_at}
use Rattle.rs_improve.specs.Swaps.{arms_of, next_behind, state_before}
use Rattle.rs_improve.specs.declared.swaps.SwappedState.{SwappedState}
use Rattle.rs_improve.specs.declared.swaps.SwappedState.TheVariants.{Old}
use Rattle.rs_improve.proofs.Exchanging.{map_next}
use Rattle.rs_improve.proofs.Leading.{before_is, next_is}
use Rattle.rs_improve.proofs.swaps.states.nexts_behind.Goals as goal

pub old_at-requires : goal.old_at-requires
old_at-requires c =
    let d : Arm = record { label = record { 0 = 0 }; sort = sort.Unit; next = 0 } in
    let a : Arm = slice_index_or c.args.takes.now c.loop-i.i d in
    let h = reads_at c.args.takes.now c.loop-i.i a d c.loop-i-test.true refl in
    let b = before_is c.args.machine.now c.machine.inside.states.items a.next c.index.result.now (ap (λ (z : Machine_data). z.states) c.machine.view_is) (c.requires.within c.loop-i.i a h) c.index.ensures in
    rw c.arms_of-arms.ensures (rw b (c.requires.long c.loop-i.i a h))

pub loop-i-preserved : goal.loop-i-preserved
loop-i-preserved c =
    let d : Arm = record { label = record { 0 = 0 }; sort = sort.Unit; next = 0 } in
    let a : Arm = slice_index_or c.args.takes.now c.loop-i.i d in
    let h = reads_at c.args.takes.now c.loop-i.i a d c.loop-i-test.true refl in
    let b = before_is c.args.machine.now c.machine.inside.states.items a.next c.index.result.now (ap (λ (z : Machine_data). z.states) c.machine.view_is) (c.requires.within c.loop-i.i a h) c.index.ensures in
    let arms : c.arms_of-arms.result.now ≡ arms_of (state_before c.args.machine.now a.next) = c.arms_of-arms.ensures ∙ ap (λ (z : State). arms_of z) b in
    let lt : c.args.send < length c.arms_of-arms.result.now = rw arms (c.requires.long c.loop-i.i a h) in
    c.in_ok-push.ensures.items ∙ ap (λ (z : SwappedState). c.loop-i.nexts.items ++ (z ∷ [])) (c.old_at.ensures (slice_index_or c.arms_of-arms.result.now c.args.send d) (reads_at c.arms_of-arms.result.now c.args.send (slice_index_or c.arms_of-arms.result.now c.args.send d) d lt refl)) ∙ ap (λ (z : List SwappedState). z ++ (Old (slice_index_or c.arms_of-arms.result.now c.args.send d).next ∷ [])) c.loop-i.invariant
    ∙ ap (λ (z : SwappedState). map (next_behind c.args.machine.now c.args.send) (take c.loop-i.i c.args.takes.now) ++ (z ∷ [])) (next_is c.args.machine.now c.args.send a c.arms_of-arms.result.now d arms lt)
    ∙ sym (map_next (next_behind c.args.machine.now c.args.send) c.args.takes.now c.loop-i.i d c.loop-i-test.true)
