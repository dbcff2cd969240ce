use Rattle.std.proofs.Common.{◌≡◌, ◌++◌, drop}
use Rattle.rs_walk_texts.specs.Dues.{due_lines}
use Rattle.rs_walk_texts.proofs.dues.push_due_lines.Given as goal

abbrev pub invariant-loop-number : goal.invariant-loop-number
invariant-loop-number l =
    l.text ++ due_lines l.source l.sender l.receiver l.label l.number (drop l.number l.nodes) ≡ l.initial.text ++ due_lines l.source l.sender l.receiver l.label 0 l.nodes
