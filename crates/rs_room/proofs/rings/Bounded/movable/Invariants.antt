use Rattle.std.proofs.Common.{◌≡◌, ◌<◌, ℕ, false}
use Rattle.rs_room.specs.Looks.{can_move}
use Rattle.rs_room.proofs.rings.Bounded.movable.Given as goal

abbrev pub invariant-loop-number : goal.invariant-loop-number
invariant-loop-number l = (p : ℕ) → p < l.number → can_move l.self p ≡ false
