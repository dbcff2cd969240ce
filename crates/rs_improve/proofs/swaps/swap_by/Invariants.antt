use Rattle.std.proofs.Common.{◌≡◌, ◌≤◌, ◌-◌, length}
use Rattle.rs_model.specs.declared.limits.TheConstants.{MOST_STATES}
use Rattle.rs_improve.specs.Swapping.{AreNumberedIn}
use Rattle.rs_improve.proofs.Finding.{AreMade}
use Rattle.rs_improve.proofs.swaps.swap_by.Given as goal

abbrev pub invariant-loop-alloc : goal.invariant-loop-alloc
invariant-loop-alloc l = AreMade l.machine l.x l.found.items.items l.states.items × (length l.found.items.items ≤ MOST_STATES)
    × AreNumberedIn l.found.items.items l.found.olds.items l.found.news.items
    × (length l.found.olds.items ≡ length l.machine.states) × (length l.found.news.items ≡ length l.x.puts)

abbrev pub decreases-loop-alloc : goal.decreases-loop-alloc
decreases-loop-alloc l = MOST_STATES - length l.states.items
