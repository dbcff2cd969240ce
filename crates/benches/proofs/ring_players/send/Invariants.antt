use Rattle.std.proofs.Common.{◌≡◌, ℕ}
use Rattle.rs_rings.specs.Views.{speaks}
use Rattle.benches.specs.Players.{IsAt}
use Rattle.benches.proofs.ring_players.send.Given as goal

abbrev pub invariant-loop : goal.invariant-loop
invariant-loop g l =
    ((goal.iterator-loop g).can_next l.iterator' × (goal.iterator-loop g).is_finite l.iterator')
    × IsAt l.rings l.player × (l.player.role ≡ l.fn.player.role) × (l.player.state ≡ l.fn.player.state) × (l.player.acts ≡ l.fn.player.acts) × (l.parcel ≡ l.fn.parcel)
    × ((r : ℕ) → speaks r l.player.pass.view.parts ≡ speaks r l.fn.player.pass.view.parts)
