use Rattle.std.proofs.Common.{◌≡◌, [], map, None}
use Rattle.rs_core.proofs.players.players_of.Given as goal

abbrev pub invariant-loop-actor : goal.invariant-loop-actor
invariant-loop-actor g l = l.players.items ≡ map (λ x. record { actor = x; kept = None; transcript = [] }) l.yielded
