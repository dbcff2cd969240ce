use Rattle.std.proofs.Common.{rules, arith, ◌≡◌, ◌+◌, ◌<◌, ◌≤◌, length, ◌∙◌}
use Rattle.rs_project.proofs.Lists.{read_via}
use Rattle.rs_project.proofs.Spread.{leads_within}
use Rattle.rs_project.proofs.Walks.{walk_begun, walk_done, walk_on, walk_past, walk_within}
use Rattle.rs_project.proofs.spreading.Marks.spread.Goals as goal

pub loop-done-init : goal.loop-done-init
loop-done-init c =
    let count : c.len.result ≡ length c.args.protocol.now.nodes = search rules in
    record {
      size = c.in_ok-mark_starts.ensures.size ∙ c.in_ok-clear.ensures.size ∙ count;
      going = c.in_ok-mark_starts.ensures.keeps c.args.protocol.now c.args.through.now c.args.starts.now 0
          (walk_begun c.args.protocol.now c.args.through.now c.args.starts.now c.clear.new.self c.in_ok-clear.ensures.numbers c.in_ok-clear.ensures.none);
    }

pub bounds-through-number : goal.bounds-through-number
bounds-through-number c =
    let m = c.loop-done.self in
    let lt : c.loop-done.done < length m.numbers = (let l = c.len-in-loop-done.ensures in let t = c.loop-done-test.true in omega (arith, l, t)) in
    let inside = walk_within c.args.protocol.now c.args.through.now c.args.starts.now m c.loop-done.done c.nth-number.result lt c.nth-number.ensures c.loop-done.invariant.size
    c.loop-done.invariant.going in
    let s = c.requires.through in
    omega (arith, inside, s)

pub mark_behind-requires : goal.mark_behind-requires
mark_behind-requires c =
    let m = c.loop-done.self in
    let lt : c.loop-done.done < length m.numbers = (let l = c.len-in-loop-done.ensures in let t = c.loop-done-test.true in omega (arith, l, t)) in
    let inside = walk_within c.args.protocol.now c.args.through.now c.args.starts.now m c.loop-done.done c.nth-number.result lt c.nth-number.ensures c.loop-done.invariant.size
    c.loop-done.invariant.going in
    leads_within c.args.protocol.now c.nth-number.result c.index.result.now (length m.flags) c.requires.well_formed
    (read_via c.args.protocol.now.nodes c.protocol.inside.nodes.items c.nth-number.result c.index.result.now (search rules) inside c.index.ensures) c.loop-done.invariant.size

pub loop-done-preserved-in-Continue-branch-3 : goal.loop-done-preserved-in-Continue-branch-3
loop-done-preserved-in-Continue-branch-3 c =
    let m = c.loop-done.self in
    let lt : c.loop-done.done < length m.numbers = (let l = c.len-in-loop-done.ensures in let t = c.loop-done-test.true in omega (arith, l, t)) in
    let inside = walk_within c.args.protocol.now c.args.through.now c.args.starts.now m c.loop-done.done c.nth-number.result lt c.nth-number.ensures c.loop-done.invariant.size
    c.loop-done.invariant.going in
    record {
      size = c.in_ok-mark_behind.ensures.size ∙ c.loop-done.invariant.size;
      going = c.in_ok-mark_behind.ensures.keeps c.args.protocol.now c.args.through.now c.args.starts.now (c.loop-done.done + 1)
          (walk_on c.args.protocol.now c.args.through.now c.args.starts.now m c.loop-done.done c.nth-number.result c.index.result.now lt c.nth-number.ensures
          (read_via c.args.protocol.now.nodes c.protocol.inside.nodes.items c.nth-number.result c.index.result.now
          (search rules) inside c.index.ensures) c.if-through-number.true c.loop-done.invariant.going);
    }

pub loop-done-preserved : goal.loop-done-preserved
loop-done-preserved c =
    let m = c.loop-done.self in
    let lt : c.loop-done.done < length m.numbers = (let l = c.len-in-loop-done.ensures in let t = c.loop-done-test.true in omega (arith, l, t)) in
    record {
      size = c.loop-done.invariant.size;
      going = walk_past c.args.protocol.now c.args.through.now c.args.starts.now m c.loop-done.done c.nth-number.result lt c.nth-number.ensures c.if-through-number.false c.loop-done.invariant.going;
    }

pub returns : goal.returns
returns c =
    let m = c.loop-done.self in
    let past : length m.numbers ≤ c.loop-done.done = (let l = c.len-in-loop-done.ensures in let t = c.loop-done-test.false in omega (arith, l, t)) in
    walk_done c.args.protocol.now c.args.through.now c.args.starts.now m c.loop-done.done past c.loop-done.invariant.size c.loop-done.invariant.going
