use Rattle.std.proofs.Common.{arith, ◌∙◌, sym}
use Rattle.rs_explain.proofs.Circling.{least_one}
use Rattle.rs_explain.proofs.deaths.soonest.Goals as goal

pub overflow_add-result : goal.overflow_add-result
overflow_add-result c =
    let m = least_one c.args.far.now c.args.row.now c.in-Some.distance (sym c.least.ensures ∙ c.in-Some.is) in
    let k = c.requires.low m.1 c.in-Some.distance m.3 in grind (arith, k)
