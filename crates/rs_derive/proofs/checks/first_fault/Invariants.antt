use Rattle.std.proofs.Common.{◌≡◌, drop}
use Rattle.rs_derive.specs.Checks.{nodes_fault}
use Rattle.rs_derive.proofs.checks.first_fault.Given as goal

abbrev pub invariant-loop-number : goal.invariant-loop-number
invariant-loop-number l =
    nodes_fault l.derivation l.sub l.above (drop l.number l.derivation.nodes) l.number ≡ nodes_fault l.derivation l.sub l.above l.derivation.nodes 0
