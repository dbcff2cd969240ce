use Rattle.std.proofs.Common.{◌≡◌, ◌≤◌, length, take}
use Rattle.rs_model.specs.declared.limits.TheConstants.{MOST_STATES}
use Rattle.rs_graph.specs.Naming.{AreNamed}
use Rattle.rs_improve.specs.Swapping.{AreNumberedIn}
use Rattle.rs_improve.proofs.swaps.numbering.name_all.Given as goal

abbrev pub invariant-loop-i : goal.invariant-loop-i
invariant-loop-i l = AreNamed l.fn.found.items.items (take l.i l.states) l.found.items.items l.row × (length l.found.items.items ≤ MOST_STATES)
    × AreNumberedIn l.found.items.items l.found.olds.items l.found.news.items
    × (length l.found.olds.items ≡ length l.fn.found.olds.items) × (length l.found.news.items ≡ length l.fn.found.news.items)
