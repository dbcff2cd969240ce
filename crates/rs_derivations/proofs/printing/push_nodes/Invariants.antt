use Rattle.std.proofs.Common.{◌≡◌, ◌++◌, drop, map}
use Rattle.rs_derivations.specs.Canonical.{tree_of_node}
use Rattle.rs_derivations.specs.declared.formats.Format.TheVariants.{Two}
use Rattle.rs_derivations.specs.Texts.{nodes_text}
use Rattle.rs_derivations.proofs.printing.push_nodes.Given as goal

abbrev pub invariant-loop-number : goal.invariant-loop-number
invariant-loop-number l = l.text ++ nodes_text Two l.number (map (tree_of_node l.lists) (drop l.number l.nodes)) ≡ l.initial.text ++ nodes_text Two 0 (map (tree_of_node l.lists) l.nodes)
