use Rattle.std.proofs.Common.{◌≡◌, [], drop, map}
use Rattle.rs_derivations.specs.PendingLists.{with_lists}
use Rattle.rs_derivations.proofs.lists.ListTable.of_nodes.Given as goal

abbrev pub invariant-loop-node : goal.invariant-loop-node
invariant-loop-node l = with_lists l.table (map (λ n. n.pending) (drop l.node-index l.nodes)) ≡ with_lists [] (map (λ n. n.pending) l.nodes)
