use Rattle.std.proofs.Common.{◌≡◌, ℕ, ◌<◌, ◌&&◌, Some, slice_get, false, get_or, length}
use Rattle.rs_model.specs.declared.graph.Node.{Node}
use Rattle.rs_project.specs.Marks.{leads_on}
use Rattle.rs_partings.proofs.waiting.both_ways.Given as goal

abbrev pub invariant-loop-i : goal.invariant-loop-i
invariant-loop-i l = record {
  size : length l.flags.items ≡ l.i;
  each : (n : ℕ) (node : Node) → n < l.i → slice_get l.protocol.nodes n ≡ Some node
      → get_or l.flags.items n false ≡ (get_or l.passing n false && (get_or l.there n false && leads_on l.back node));
}
