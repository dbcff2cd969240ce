use Rattle.std.proofs.Common.{rules}
use Rattle.rs_places.proofs.Standing.{holds_first, holds_next, shrinks, ends}
use Rattle.rs_places.proofs.finding.places_of.Goals as goal

pub loop-first-init : goal.loop-first-init
loop-first-init c =
    holds_first c.args.bytes.now c.args.roles.now c.in_ok-finder.finder c.next_token-first.result c.next_token-second.result (search rules) (search rules) (search rules) (search rules) (search rules) (search rules)

pub loop-first-smaller : goal.loop-first-smaller
loop-first-smaller c = shrinks c.args.bytes.now c.loop-first.first.until c.loop-first.second c.next_token-third.result (search rules) (search rules) (search rules) (search rules)

pub loop-first-preserved : goal.loop-first-preserved
loop-first-preserved c =
    holds_next c.args.bytes.now c.args.roles.now c.loop-first.finder c.take.new.self c.loop-first.first c.loop-first.second c.next_token-third.result c.loop-first.invariant (search rules) (search rules) (search rules)
    (search rules) (search rules) (search rules)

pub returns : goal.returns
returns c =
    let all = ends c.args.bytes.now c.args.roles.now c.loop-first.finder c.loop-first.first c.loop-first.second c.loop-first.invariant.9 (search rules) c.loop-first.invariant.1 c.loop-first.invariant.8 in
    search (all, rules)
