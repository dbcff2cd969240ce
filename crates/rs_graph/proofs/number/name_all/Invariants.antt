use Rattle.std.proofs.Common.{◌≡◌, length, take}
use Rattle.rs_graph.specs.Naming.{AreNamed}
use Rattle.rs_graph.specs.Places.{IsPlaced}
use Rattle.rs_graph.proofs.number.name_all.Given as goal

abbrev pub invariant-loop-i : goal.invariant-loop-i
invariant-loop-i l = AreNamed l.fn.items.items (take l.i l.ys) l.items.items l.numbers
    × IsPlaced l.items.items l.places.items × (length l.places.items ≡ length l.fn.places.items)
