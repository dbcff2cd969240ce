use Rattle.std.proofs.Common.{◌≡◌, length}
use Rattle.rs_walk_texts.specs.OneWay.{toward}
use Rattle.rs_walk_texts.proofs.oneway.meeting.Given as goal

abbrev pub invariant-loop-count : goal.invariant-loop-count
invariant-loop-count l = record {
  size : length l.flags.items ≡ length l.nodes;
  flags_are : l.flags.items ≡ toward l.nodes l.role l.talk l.count;
}
