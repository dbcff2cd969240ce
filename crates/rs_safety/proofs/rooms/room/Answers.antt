use Rattle.std.proofs.Common.{◌≡◌, ◌∙◌, ap, sym, map, Some, length, arith}
use Rattle.std.proofs.lemmas.List.{length-map}
use Rattle.rs_safety.specs.Figures.{figures_of}
use Rattle.rs_safety.proofs.Accepts.{gets}
use Rattle.rs_safety.proofs.Counting.{counted, counts_on, figures_at, room_by_shown}
use Rattle.rs_safety.proofs.rooms.room.Goals as goal

pub loop-derivation-preserved : goal.loop-derivation-preserved
loop-derivation-preserved c =
    let at = gets c.args.derivations.now c.loop-derivation.derivation-index c.derivation-item.result c.loop-derivation-test.true c.derivation-item.is in
    counts_on (map figures_of c.args.derivations.now) c.loop-derivation.derivation-index c.loop-derivation.demand.owed c.loop-derivation.demand.lag c.figures_of.result c.with-demand.result.owed
    c.with-demand.result.lag
    (figures_at c.args.derivations.now c.loop-derivation.derivation-index c.derivation-item.result at ∙ ap Some (sym c.figures_of.ensures))
    c.with-demand.ensures.owed c.with-demand.ensures.lag c.with-demand.ensures.within c.loop-derivation.invariant

pub returns : goal.returns
returns c =
    let all : length (map figures_of c.args.derivations.now) ≡ length c.args.derivations.now = length-map c.args.derivations.now figures_of in
    c.room.ensures ∙ counted (map figures_of c.args.derivations.now) c.loop-derivation.derivation-index c.loop-derivation.demand.owed c.loop-derivation.demand.lag c.loop-derivation.invariant
    (let end = c.loop-derivation-test.false in omega (arith, all, end))
    ∙ room_by_shown c.args.derivations.now
