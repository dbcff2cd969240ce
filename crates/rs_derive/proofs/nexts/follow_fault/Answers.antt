use Rattle.std.proofs.Common.{rules, ◌≡◌, ◌≤◌, [], ◌∷◌, length, sym, ap, ◌∙◌, arith}
use Rattle.std.proofs.Math.Nat.{min-le_left}
use Rattle.rs_derive.specs.Data.{DNode_data}
use Rattle.rs_derive.specs.Checks.{fault_of_count}
use Rattle.rs_derive.proofs.Few.{few, one_more}
use Rattle.rs_derive.proofs.Loops.{at_count, left, stepped}
use Rattle.rs_derive.specs.Moves.{owing_receive}
use Rattle.rs_derive.specs.Derivations.{spot_of}
use Rattle.rs_derive.proofs.nexts.follow_fault.Goals as goal

pub overflow_cast-place : goal.overflow_cast-place
overflow_cast-place c =
    let h = few c.loop-place.place c.args.arms.now c.requires (search rules) c.loop-place.invariant.labels in omega arith

pub overflow_cast-due : goal.overflow_cast-due
overflow_cast-due c =
    let e : c.loop-place.place ≡ c.min-due.result = search rules in
    let l : c.min-due.result ≤ length c.args.arms.now = search (rules, min-le_left) in
    let h = few c.loop-place.place c.args.arms.now c.requires (omega arith) c.loop-place.invariant.labels in omega arith

pub returns-in-Some : goal.returns-in-Some
returns-in-Some c =
    left (λ b. owing_receive
    (spot_of c.args.node.now) c.args.peer b ∷ []) c.args.nodes.now c.args.source.keeps c.args.source.rank c.args.source.node c.args.arms.now c.args.node.now.next c.loop-place.place _ _
    (search rules) (search rules) (sym c.followed_fault.ensures.fault ∙ c.in-Some.is) c.loop-place.invariant.rest

pub loop-place-preserved : goal.loop-place-preserved
loop-place-preserved c = record {
  rest = stepped (λ b. owing_receive
      (spot_of c.args.node.now) c.args.peer b ∷ []) c.args.nodes.now c.args.source.keeps c.args.source.rank c.args.source.node c.args.arms.now c.args.node.now.next c.loop-place.place _
      (search rules) (search rules) (sym c.followed_fault.ensures.fault ∙ c.in_default.is) c.loop-place.invariant.rest;
  labels = one_more c.loop-place.place c.args.arms.now c.loop-place.invariant.labels c.followed_fault.ensures.label;
}

pub returns : goal.returns
returns c =
    let e : length c.as_slice-2.result.now ≡ length c.args.node.now.next = ap (λ z. length z) c.as_slice-2.ensures ∙ ap (λ (z : DNode_data). length z.next) c.node.view_is in
    c.count_fault.ensures ∙ ap (λ n. fault_of_count c.args.source.node c.min-due.result (length c.args.arms.now) n) e
    ∙ at_count (λ b. owing_receive
    (spot_of c.args.node.now) c.args.peer b ∷ []) c.args.nodes.now c.args.source.keeps c.args.source.rank c.args.source.node c.args.arms.now c.args.node.now.next c.loop-place.place c.min-due.result _
    (search rules) (search rules) c.loop-place.invariant.rest
