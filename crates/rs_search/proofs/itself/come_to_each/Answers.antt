use Rattle.std.proofs.Common.{arith, ◌≡◌, List, map, slice_index_or, subst, sym, ◌∙◌, refl, take, take_all}
use Rattle.rs_model.specs.declared.graph.Arm.{Arm}
use Rattle.rs_model.specs.declared.values.Sort.TheVariants as sort
use Rattle.rs_derive.specs.Moves.{Spot}
use Rattle.rs_graph.specs.Naming.{AreNamed}
use Rattle.rs_graph.proofs.Growth.{named_none, named_push}
use Rattle.rs_search.specs.Itself.{even}
use Rattle.rs_search.specs.Spots.{spots_of}
use Rattle.rs_search.proofs.Alike.{arm_reads, map_more}
use Rattle.rs_search.proofs.Lengthening.{longer_on, longer_same}
use Rattle.rs_search.proofs.itself.come_to_each.Goals as goal

pub loop-i-init : goal.loop-i-init
loop-i-init c = (rw c.new-row.ensures (named_none (spots_of c.args.nodes.now.items)), c.requires.positions, longer_same c.args.nodes.now.items)

pub come_to-requires-clause-present : goal.come_to-requires-clause-present
come_to-requires-clause-present c =
    let none : Arm = record { label = record { 0 = 0 }; sort = sort.Unit; next = 0 } in
    let h = c.requires.present c.loop-i.i (slice_index_or c.args.arms.now c.loop-i.i none) (arm_reads c.args.arms.now c.loop-i.i none c.loop-i-test.true) in
    let s = c.loop-i.invariant.1.size in omega arith

pub come_to-requires-clause-positions : goal.come_to-requires-clause-positions
come_to-requires-clause-positions c = let p = c.loop-i.invariant.1 in record { bounded = p.bounded; placed = p.placed; size = refl }

pub loop-i-preserved : goal.loop-i-preserved
loop-i-preserved c =
    let none : Arm = record { label = record { 0 = 0 }; sort = sort.Unit; next = 0 } in
    let e = c.in_ok-n.ensures in
    let i = c.loop-i.invariant in
    let old = spots_of c.args.nodes.now.items in
    let new = spots_of c.come_to.new.nodes.items in
    let h = arm_reads c.args.arms.now c.loop-i.i none c.loop-i-test.true in
    let m = map_more (λ (a : Arm). even a.next) c.args.arms.now c.loop-i.i (slice_index_or c.args.arms.now c.loop-i.i none) h in (
      subst (λ (z : List Spot). AreNamed old z new c.push.new.self) (sym m)
          (named_push old _ (spots_of c.loop-i.nodes.items) new _ c.in_ok-n.n c.loop-i.row c.push.new.self i.0 e.named c.in_ok-push.ensures.ok),
      record { bounded = e.positions.bounded; placed = e.positions.placed; size = e.positions.size ∙ i.1.size },
      longer_on c.args.nodes.now.items c.loop-i.nodes.items c.come_to.new.nodes.items i.2 e.longer,
    )

pub returns-clause-named : goal.returns-clause-named
returns-clause-named c =
    let all : take c.loop-i.i c.args.arms.now ≡ c.args.arms.now = take_all c.loop-i.i c.args.arms.now (grind arith) in
    subst (λ (z : List Arm). AreNamed (spots_of c.args.nodes.now.items) (map (λ (a : Arm). even a.next) z) (spots_of c.loop-i.nodes.items) c.loop-i.row) all c.loop-i.invariant.0
