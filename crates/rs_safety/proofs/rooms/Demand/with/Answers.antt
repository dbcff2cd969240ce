use Rattle.std.proofs.Common.{rules, ◌<◌, ◌≤◌, ◌+◌, ◌*◌, ◌^◌, arith}
use Rattle.rs_safety.proofs.Counting.{at_most_both, product}
use Rattle.rs_safety.proofs.rooms.Demand.with.Goals as goal

pub returns-clause-within : goal.returns-clause-within
returns-clause-within c =
    let short : c.args.figures.owed < 2 ^ 8 = search rules in
    let low : c.args.figures.rank < 2 ^ 32 = search rules in
    let late : c.from.result * (c.from-2.result + 1) ≤ 255 * 2 ^ 32 = rw (c.from.ensures, c.from-2.ensures) (let p = product c.args.figures.owed c.args.figures.rank short low in omega (arith, p)) in
    rw c.max-2.ensures (at_most_both c.args.self.lag (c.from.result * (c.from-2.result + 1)) (255 * 2 ^ 32) c.requires late)
