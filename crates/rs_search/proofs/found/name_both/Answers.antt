use Rattle.std.proofs.Common.{rules, arith, ◌∙◌, List, map, take_all, subst, refl}
use Rattle.rs_model.specs.declared.graph.Arm.{Arm}
use Rattle.rs_derive.proofs.Few.{few, one_more}
use Rattle.rs_derive.specs.Due.{both_at}
use Rattle.rs_derive.specs.Moves.{arm_of}
use Rattle.rs_graph.specs.Lists.{concat}
use Rattle.rs_graph.proofs.Growth.{at_within, named_none}
use Rattle.rs_graph.specs.Naming.{AreNamed}
use Rattle.rs_search.specs.Itself.{GrowsBy}
use Rattle.rs_search.proofs.Turning.{label_at}
use Rattle.rs_search.proofs.Naming.{both_short, grown_both, named_both, on_err, rows_of_arms_short}
use Rattle.rs_search.proofs.found.name_both.Goals as goal

pub loop-arm-init : goal.loop-arm-init
loop-arm-init c = (λ p h. rw c.new-row.ensures (named_none c.args.table.now.spots), c.requires.within, refl, λ i a lt e. let bad : ⊥ = omega arith in absurd bad)

pub loop-arm-preserved : goal.loop-arm-preserved
loop-arm-preserved c =
    let i = c.loop-arm.invariant in
    let xs = c.args.arms.now in
    let e = c.in_ok-name_if.ensures in (
      λ p h. named_both p.pending c.args.theirs.now c.args.table.now.spots c.loop-arm.table.spots c.name_if.new.table.spots xs c.loop-arm.arm-index _ c.arm_of-their.ensures.label
          c.arm_of-their.result c.loop-arm.row c.name_if.new.row c.loop-arm-test.true
          c.arm_of-their.ensures.arm (λ ys a. e.named p ((i.0 p h).grown.kept c.args.k p h) c.args.table.now.spots ys a) (i.0 p h),
      record { limit_fits = i.1.limit_fits; bounded = e.limit; present = (let t = i.1.present in let l = c.name_if.ensures.longer in omega arith) },
      c.name_if.ensures.rows ∙ i.2,
      one_more c.loop-arm.arm-index xs i.3 (λ a k. label_at xs c.loop-arm.arm-index _ a c.arm_of-their.ensures.label k),
    )

pub returns-in_err-name_if-clause-grown : goal.returns-in_err-name_if-clause-grown
returns-in_err-name_if-clause-grown c =
    let w : GrowsBy (λ p. concat (map (λ a. both_at p.pending a (arm_of c.args.theirs.now a.label)) c.args.arms.now)) c.args.table.now.spots c.args.k c.name_if.new.table.spots = λ p h.
    let i = c.loop-arm.invariant in
    let xs = c.args.arms.now in
    grown_both p.pending c.args.theirs.now c.args.table.now.spots c.loop-arm.table.spots c.name_if.new.table.spots xs c.loop-arm.arm-index _ c.arm_of-their.ensures.label c.arm_of-their.result
    c.loop-arm-test.true
    c.arm_of-their.ensures.arm (c.in_err-name_if.ensures.grown p ((i.0 p h).grown.kept c.args.k p h)) (i.0 p h).grown in
    on_err _ w

pub returns-clause-named : goal.returns-clause-named
returns-clause-named c = λ p h.
    subst (λ (z : List Arm). AreNamed c.args.table.now.spots (concat (map (λ a. both_at p.pending a (arm_of c.args.theirs.now a.label)) z)) c.loop-arm.table.spots c.loop-arm.row)
    (take_all c.loop-arm.arm-index c.args.arms.now (search rules)) (c.loop-arm.invariant.0 p h)

pub returns-clause-short : goal.returns-clause-short
returns-clause-short c =
    let x = at_within c.args.table.now.spots c.args.k c.requires.within.present in
    let r = rows_of_arms_short (λ a. both_at x.0.pending a (arm_of c.args.theirs.now a.label))
    (λ a. both_short x.0.pending a (arm_of c.args.theirs.now a.label)) c.args.table.now.spots c.loop-arm.table.spots c.args.arms.now c.loop-arm.arm-index c.loop-arm.row
    (c.loop-arm.invariant.0 x.0 x.1) in
    let h = few c.loop-arm.arm-index c.args.arms.now c.requires.once (search rules) c.loop-arm.invariant.3 in omega arith
