use Rattle.std.proofs.Common.{rules, ◌≡◌, true, false, refl, sym}
use Rattle.rs_explain.proofs.Forced.{forced_by}
use Rattle.rs_explain.specs.Forcing.{is_guess}
use Rattle.rs_search.specs.Candidates.{start_spot}
use Rattle.rs_explain.proofs.forcing.is_forced.Goals as goal

pub returns-then-not-is_guess : goal.returns-then-not-is_guess
returns-then-not-is_guess c =
    let v = c.in-Some.ensures.cases in
    let f = forced_by c.args.sub.now c.args.above.now (start_spot c.args.sub.now c.args.above.now) c.in-Some.earlier.now c.in-Some.field-0-0.now in
    let g : is_guess c.args.sub.now c.args.above.now (start_spot c.args.sub.now c.args.above.now) ≡ false = search rules in
    rw (v.0, sym f, g) c.none_is_a_guess.ensures

pub returns-else-not-is_guess : goal.returns-else-not-is_guess
returns-else-not-is_guess c =
    let v = c.in-Some.ensures.cases in
    let f = forced_by c.args.sub.now c.args.above.now (start_spot c.args.sub.now c.args.above.now) c.in-Some.earlier.now c.in-Some.field-0-0.now in
    let g : is_guess c.args.sub.now c.args.above.now (start_spot c.args.sub.now c.args.above.now) ≡ true = search rules in
    rw (v.0, sym f, g, c.if-not-is_guess.false) refl
