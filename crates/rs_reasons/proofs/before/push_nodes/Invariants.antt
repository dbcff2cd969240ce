use Rattle.std.proofs.Common.{◌≡◌, ◌++◌, drop}
use Rattle.rs_reasons.specs.Before.{nodes_lines}
use Rattle.rs_reasons.proofs.before.push_nodes.Given as goal

abbrev pub invariant-loop-number : goal.invariant-loop-number
invariant-loop-number l = l.text ++ nodes_lines l.clash l.number (drop l.number l.nodes) ≡ l.initial.text ++ nodes_lines l.clash 0 l.nodes
