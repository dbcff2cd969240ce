use Rattle.std.proofs.Common.{◌≡◌, ◌-◌, ◌*◌, length}
use Rattle.rs_core.specs.Queues.{AreTranscripts}
use Rattle.rs_core.specs.Rounds.{acts_of}
use Rattle.rs_core.proofs.RunsSoFar.{RunSoFar}
use Rattle.rs_core.proofs.playing.play.Given as goal

abbrev pub invariant-loop-players : goal.invariant-loop-players
invariant-loop-players g l = record {
  so_far : RunSoFar g.A.Actor.behaviour (g.Q.Queues.core l.fn.queues).machines l.limit (g.Q.Queues.capacity l.fn.queues) l.fn.actors.items (g.Q.Queues.core l.queues) l.players.items;
  noted : AreTranscripts (g.Q.Queues.notes l.queues) l.players.items;
  capacity : g.Q.Queues.capacity l.queues ≡ g.Q.Queues.capacity l.fn.queues;
}

-- the acts that are left up to the limits
abbrev pub decreases-loop-players : goal.decreases-loop-players
decreases-loop-players g l = length (g.Q.Queues.core l.fn.queues).machines * l.limit - acts_of l.players.items
