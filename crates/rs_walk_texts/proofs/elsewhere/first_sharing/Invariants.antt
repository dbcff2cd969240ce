use Rattle.std.proofs.Common.{◌≡◌, drop}
use Rattle.rs_walk_texts.specs.Elsewhere.{first_sharing}
use Rattle.rs_walk_texts.proofs.elsewhere.first_sharing.Given as goal

abbrev pub invariant-loop-number : goal.invariant-loop-number
invariant-loop-number l = first_sharing l.ours l.number (drop l.number l.nodes) ≡ first_sharing l.ours 0 l.nodes
