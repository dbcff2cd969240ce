use Rattle.std.proofs.Common.{arith, ◌≡◌, ◌+◌, ◌++◌, ◌∷◌, [], ◌∙◌, List, map, take, length, slice_get, slice_index_or, Some, subst, sym, ap, append-nil, append_assoc, take_all}
use Rattle.rs_model.specs.declared.graph.Arm.{Arm}
use Rattle.rs_model.specs.declared.values.Sort.TheVariants as sort
use Rattle.rs_derive.specs.Moves.{Spot, owing_receive}
use Rattle.rs_graph.proofs.Growth.{named_new, named_none, named_push}
use Rattle.rs_graph.specs.Lists.{Among}
use Rattle.rs_graph.specs.Naming.{AreNamed}
use Rattle.rs_search.specs.Itself.{even}
use Rattle.rs_search.specs.Spots.{spots_of}
use Rattle.rs_search.proofs.Alike.{arm_reads, map_more, not_yet, placed_owing}
use Rattle.rs_search.proofs.Lengthening.{longer_on, longer_same, spots_count}
use Rattle.rs_search.proofs.itself.owe_each.Goals as goal

pub loop-i-init : goal.loop-i-init
loop-i-init c =
    let old = spots_of c.args.nodes.now.items in
    (rw c.new-row.ensures (named_none old), c.requires.bounded, sym (append-nil old), λ places p. p, longer_same c.args.nodes.now.items)

pub loop-i-preserved : goal.loop-i-preserved
loop-i-preserved c =
    let none : Arm = record { label = record { 0 = 0 }; sort = sort.Unit; next = 0 } in
    let i = c.loop-i.invariant in
    let e = c.in_ok-n.ensures in
    let old = spots_of c.args.nodes.now.items in
    let cur = spots_of c.loop-i.nodes.items in
    let new = spots_of c.owe.new.nodes.items in
    let f : Arm → Spot = λ (b : Arm). owing_receive (even c.args.state) c.args.peer b in
    let b : Arm = slice_index_or c.args.arms.now c.loop-i.i none in
    let h : slice_get c.args.arms.now c.loop-i.i ≡ Some b = arm_reads c.args.arms.now c.loop-i.i none c.loop-i-test.true in
    let m : map f (take (c.loop-i.i + 1) c.args.arms.now) ≡ map f (take c.loop-i.i c.args.arms.now) ++ (f b ∷ []) = map_more f c.args.arms.now c.loop-i.i b h in
    let p : new ≡ cur ++ (f b ∷ []) = e.added in
    let l : c.in_ok-n.n ≡ length cur = e.number ∙ sym (spots_count c.loop-i.nodes.items) in
    let out : Among cur (f b) → ⊥
    = λ a. not_yet old c.args.state c.args.peer c.args.arms.now c.loop-i.i b c.requires.once c.requires.fresh h (subst (λ (z : List Spot). Among z (f b)) i.2 a) in (
      subst (λ (z : List Spot). AreNamed old z new c.push.new.self) (sym m)
          (named_push old (map f (take c.loop-i.i c.args.arms.now)) cur new (f b) c.in_ok-n.n c.loop-i.row c.push.new.self i.0 (named_new cur new (f b) c.in_ok-n.n out p l) c.in_ok-push.ensures.ok),
      e.bounded,
      p ∙ ap (λ (z : List Spot). z ++ (f b ∷ [])) i.2 ∙ append_assoc old (map f (take c.loop-i.i c.args.arms.now)) (f b ∷ []) ∙ ap (λ (z : List Spot). old ++ z) (sym m),
      λ places q. placed_owing cur new places (f b) p (λ z. absurd (cc (z))) (i.3 places q),
      longer_on c.args.nodes.now.items c.loop-i.nodes.items c.owe.new.nodes.items i.4 e.longer,
    )

pub returns-clause-named : goal.returns-clause-named
returns-clause-named c =
    let all : take c.loop-i.i c.args.arms.now ≡ c.args.arms.now = take_all c.loop-i.i c.args.arms.now (grind arith) in
    subst (λ (z : List Arm). AreNamed (spots_of c.args.nodes.now.items) (map (λ (b : Arm). owing_receive (even c.args.state) c.args.peer b) z) (spots_of c.loop-i.nodes.items) c.loop-i.row) all
    c.loop-i.invariant.0

pub returns-clause-positions : goal.returns-clause-positions
returns-clause-positions c = λ places states q.
    let n = spots_count c.loop-i.nodes.items in
    let b = c.loop-i.invariant.1 in
    record { bounded = omega arith; placed = c.loop-i.invariant.3 places q.placed; size = q.size }
