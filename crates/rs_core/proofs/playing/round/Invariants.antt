use Rattle.std.proofs.Common.{◌≡◌, length}
use Rattle.rs_core.specs.Queues.{AreTranscripts}
use Rattle.rs_core.proofs.RunsSoFar.{SoFar}
use Rattle.rs_core.proofs.playing.round.Given as goal

abbrev pub invariant-loop-i : goal.invariant-loop-i
invariant-loop-i g l = record {
  count : l.count ≡ length (g.Q.Queues.core l.fn.queues).machines;
  so_far : SoFar g.A.Actor.behaviour l.limit (g.Q.Queues.capacity l.fn.queues) (g.Q.Queues.core l.fn.queues) l.fn.players.items (g.Q.Queues.core l.queues) l.players.items l.i l.moved;
  noted : AreTranscripts (g.Q.Queues.notes l.queues) l.players.items;
  capacity : g.Q.Queues.capacity l.queues ≡ g.Q.Queues.capacity l.fn.queues;
}
