use Rattle.std.proofs.Common.{arith, ◌<◌, ◌++◌, ◌∷◌, [], ◌∙◌, ap, sym, refl, List, length, slice_index_or}
use Rattle.rs_model.specs.declared.graph.Arm.{Arm}
use Rattle.rs_model.specs.declared.values.Sort.TheVariants as sort
use Rattle.rs_graph.proofs.Growth.{reads_at}
use Rattle.rs_improve.proofs.Leading.{arms_to_on}
use Rattle.rs_improve.proofs.swaps.states.arms_to.Goals as goal

pub loop-i-preserved : goal.loop-i-preserved
loop-i-preserved c =
    let d : Arm = record { label = record { 0 = 0 }; sort = sort.Unit; next = 0 } in
    let a : Arm = slice_index_or c.args.arms.now c.loop-i.i d in
    let n = slice_index_or c.args.row.now c.loop-i.i 0 in
    let lt : c.loop-i.i < length c.args.row.now = omega (arith, c.loop-i-test.true, c.requires) in
    c.in_ok-push.ensures.ok ∙ ap (λ (z : List Arm). z ++ (record a { next = n } ∷ [])) c.loop-i.invariant
    ∙ sym (arms_to_on c.args.arms.now c.args.row.now c.loop-i.i a n (reads_at c.args.arms.now c.loop-i.i a d c.loop-i-test.true refl) (reads_at c.args.row.now c.loop-i.i n 0 lt refl))
