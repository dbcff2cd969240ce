use Rattle.std.proofs.Common.{rules, arith, ◌≡◌, ◌∙◌, List, map, take, take_all, slice_get, Some, subst, sym, ap, refl}
use Rattle.rs_model.specs.declared.graph.Arm.{Arm}
use Rattle.rs_derive.proofs.Few.{few, one_more}
use Rattle.rs_derive.specs.Targets.{target_spot}
use Rattle.rs_derive.specs.Derivations.{spot_of}
use Rattle.rs_derive.specs.Moves.{Spot}
use Rattle.rs_graph.proofs.Growth.{at_within, named_none}
use Rattle.rs_graph.specs.Naming.{AreNamed}
use Rattle.rs_search.specs.Itself.{GrowsBy}
use Rattle.rs_search.specs.Turns.{owing_by}
use Rattle.rs_search.proofs.Turning.{label_at}
use Rattle.rs_search.proofs.Naming.{grown_arm, named_arm, on_err, row_short, stays_at}
use Rattle.rs_search.proofs.found.name_each_owing.Goals as goal

pub loop-arm-init : goal.loop-arm-init
loop-arm-init c = (λ p h. rw c.new-row.ensures (named_none c.args.table.now.spots), c.requires.within, refl, λ i a lt e. let bad : ⊥ = omega arith in absurd bad)

pub loop-arm-preserved : goal.loop-arm-preserved
loop-arm-preserved c =
    let i = c.loop-arm.invariant in
    let xs = c.args.theirs.now in
    let e = c.in_ok-name.ensures in
    let t = c.target_owing-target in
    let q = spot_of c.node.result.now in
    let same : (p : Spot) → slice_get c.args.table.now.spots c.args.k ≡ Some p → q ≡ p = λ p h.
    stays_at c.args.table.now.spots (map (λ b. owing_by c.args.kind p c.args.peer b) (take c.loop-arm.arm-index xs)) c.loop-arm.table.spots c.args.k p q h (i.0 p h).grown c.node.ensures in (
      λ p h. named_arm (λ z b. owing_by c.args.kind z c.args.peer b) c.args.table.now.spots c.loop-arm.table.spots c.name.new.table.spots xs c.loop-arm.arm-index _ t.ensures.label p q
          (target_spot p.pending t.result) c.loop-arm.row c.name.new.row c.loop-arm-test.true
          (ap (λ (z : Spot). target_spot z.pending t.result) (sym (same p h)) ∙ t.ensures.spot) (same p h) (λ ys a. e.named p ((i.0 p h).grown.kept c.args.k p h) c.args.table.now.spots ys a)
          (i.0 p h),
      record { limit_fits = i.1.limit_fits; bounded = e.limit; present = (let t = i.1.present in let l = c.name.ensures.longer in omega arith) },
      c.name.ensures.rows ∙ i.2,
      one_more c.loop-arm.arm-index xs i.3 (λ a k. label_at xs c.loop-arm.arm-index _ a t.ensures.label k),
    )

pub returns-in_err-name-clause-grown : goal.returns-in_err-name-clause-grown
returns-in_err-name-clause-grown c =
    let w : GrowsBy (λ p. map (λ b. owing_by c.args.kind p c.args.peer b) c.args.theirs.now) c.args.table.now.spots c.args.k c.name.new.table.spots = λ p h.
    let i = c.loop-arm.invariant in
    let xs = c.args.theirs.now in
    let t = c.target_owing-target in
    let q = spot_of c.node.result.now in
    let same : q ≡ p = stays_at c.args.table.now.spots (map (λ b. owing_by c.args.kind p c.args.peer b) (take c.loop-arm.arm-index xs)) c.loop-arm.table.spots c.args.k p q h
    (i.0 p h).grown c.node.ensures in
    grown_arm (λ z b. owing_by c.args.kind z c.args.peer b) c.args.table.now.spots c.loop-arm.table.spots c.name.new.table.spots xs c.loop-arm.arm-index _ t.ensures.label p q
    (target_spot p.pending t.result) c.loop-arm-test.true
    (ap (λ (z : Spot). target_spot z.pending t.result) (sym same) ∙ t.ensures.spot) same (c.name.ensures.adds p ((i.0 p h).grown.kept c.args.k p h)) (i.0 p h).grown in
    on_err _ w

pub returns-clause-named : goal.returns-clause-named
returns-clause-named c = λ p h.
    subst (λ (z : List Arm). AreNamed c.args.table.now.spots (map (λ b. owing_by c.args.kind p c.args.peer b) z) c.loop-arm.table.spots c.loop-arm.row)
    (take_all c.loop-arm.arm-index c.args.theirs.now (search rules)) (c.loop-arm.invariant.0 p h)

pub returns-clause-short : goal.returns-clause-short
returns-clause-short c =
    let x = at_within c.args.table.now.spots c.args.k c.requires.within.present in
    let r = row_short (λ b. owing_by c.args.kind x.0 c.args.peer b) c.args.table.now.spots c.loop-arm.table.spots c.args.theirs.now c.loop-arm.arm-index c.loop-arm.row
    (c.loop-arm.invariant.0 x.0 x.1) in
    let h = few c.loop-arm.arm-index c.args.theirs.now c.requires.once (search rules) c.loop-arm.invariant.3 in omega arith
