use Rattle.std.proofs.Common.{get_or}
use Rattle.std.proofs.lemmas.Option.{slice_get-get_or}
use Rattle.rs_safety.proofs.Counting.{counts_on}
use Rattle.rs_safety.specs.declared.rooms.Figures.{Figures}
use Rattle.rs_safety.proofs.rooms.room_by_figures.Goals as goal

abbrev none : Figures
none = record { nodes = 0; owed = 0; rank = 0 }

pub loop-figures-preserved : goal.loop-figures-preserved
loop-figures-preserved c =
    counts_on c.args.figures.now c.loop-figures.figures-index c.loop-figures.demand.owed c.loop-figures.demand.lag (get_or c.args.figures.now c.loop-figures.figures-index none)
    c.with-demand.result.owed c.with-demand.result.lag
    (slice_get-get_or c.args.figures.now c.loop-figures.figures-index none c.loop-figures-test.true)
    c.with-demand.ensures.owed c.with-demand.ensures.lag c.with-demand.ensures.within c.loop-figures.invariant
