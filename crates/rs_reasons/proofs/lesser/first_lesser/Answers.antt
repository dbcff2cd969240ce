use Rattle.std.proofs.Common.{rules, ◌<◌, length, get_or}
use Rattle.rs_reasons.proofs.LesserBounds.{finds}
use Rattle.rs_reasons.proofs.lesser.first_lesser.Goals as goal

pub returns-in-Some : goal.returns-in-Some
returns-in-Some c =
    let within : c.loop-lesser.lesser-index < length c.args.bounds.now = search rules in
    let less : get_or c.args.bounds.now c.loop-lesser.lesser-index 0 < c.args.bound = search rules in
    c.loop-lesser.invariant _ (finds c.args.source.now c.args.bound c.loop-lesser.lesser-index 0 c.args.bounds.now _ _ within less c.in_ok-text.ensures c.in-Some.is)
