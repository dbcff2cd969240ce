use Rattle.std.proofs.Common.{◌≡◌, map, take}
use Rattle.rs_project.specs.Marks.{involves_role}
use Rattle.rs_partings.proofs.surveying.involved_nodes.Given as goal

abbrev pub invariant-loop-node : goal.invariant-loop-node
invariant-loop-node l = l.involved.items ≡ map (λ n. involves_role l.role n) (take l.node-index l.node-items)
