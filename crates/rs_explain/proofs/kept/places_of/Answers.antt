use Rattle.std.proofs.Common.{slice_index_or}
use Rattle.rs_graph.proofs.Buckets.{place_in}
use Rattle.rs_explain.proofs.Keeping.{places_none, places_on}
use Rattle.rs_explain.proofs.Nearest.{at_place}
use Rattle.rs_explain.proofs.kept.places_of.Goals as goal

pub loop-i-init : goal.loop-i-init
loop-i-init c = places_none c.args.current.now c.args.items.now c.new-places.result.items c.new-places.ensures.items

pub bounds-current-items : goal.bounds-current-items
bounds-current-items c = c.requires.within (slice_index_or c.args.items.now c.loop-i.i 0) (place_in c.args.items.now c.loop-i.i c.loop-i-test.true)

pub loop-i-preserved : goal.loop-i-preserved
loop-i-preserved c =
    places_on c.args.current.now c.args.items.now c.loop-i.i (slice_index_or c.args.items.now c.loop-i.i 0) c.loop-i.places.items c.push.new.self.items c.loop-i.invariant
    (at_place c.args.items.now c.loop-i.i c.loop-i-test.true) c.in_ok-push.ensures.items
