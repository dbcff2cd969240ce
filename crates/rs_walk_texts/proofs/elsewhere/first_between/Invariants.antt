use Rattle.std.proofs.Common.{◌≡◌, drop}
use Rattle.rs_walk_texts.specs.Elsewhere.{first_between}
use Rattle.rs_walk_texts.proofs.elsewhere.first_between.Given as goal

abbrev pub invariant-loop-number : goal.invariant-loop-number
invariant-loop-number l = first_between l.sender l.receiver l.ours l.number (drop l.number l.nodes) ≡ first_between l.sender l.receiver l.ours 0 l.nodes
