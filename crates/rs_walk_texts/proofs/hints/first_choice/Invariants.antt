use Rattle.std.proofs.Common.{◌≡◌, drop}
use Rattle.rs_walk_texts.specs.Hints.{first_choice}
use Rattle.rs_walk_texts.proofs.hints.first_choice.Given as goal

abbrev pub invariant-loop-number : goal.invariant-loop-number
invariant-loop-number l = first_choice l.sender l.receiver l.label l.number (drop l.number l.nodes) ≡ first_choice l.sender l.receiver l.label 0 l.nodes
