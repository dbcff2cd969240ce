use Rattle.std.proofs.Common.{◌≡◌, map}
use Rattle.rs_core.proofs.players.parts_of.Given as goal

abbrev pub invariant-loop-player : goal.invariant-loop-player
invariant-loop-player g l = record {
  actors : l.actors.items ≡ map (λ x. x.actor) l.yielded;
  transcripts : l.transcripts.items ≡ map (λ x. x.transcript) l.yielded;
}
