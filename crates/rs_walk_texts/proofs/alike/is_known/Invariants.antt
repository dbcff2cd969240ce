use Rattle.std.proofs.Common.{◌≡◌, drop}
use Rattle.std.specs.List.{list_any}
use Rattle.rs_walk_texts.specs.Alike.{sends_label}
use Rattle.rs_walk_texts.proofs.alike.is_known.Given as goal

abbrev pub invariant-loop-node : goal.invariant-loop-node
invariant-loop-node l =
    list_any (sends_label l.sender l.receiver l.label) (drop l.node-index l.nodes) ≡ list_any (sends_label l.sender l.receiver l.label) l.nodes
