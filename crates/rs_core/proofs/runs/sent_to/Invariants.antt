use Rattle.std.proofs.Common.{◌≡◌, ◌+◌, ◌≤◌, drop}
use Rattle.rs_core.specs.Runs.{sent_to}
use Rattle.rs_core.proofs.runs.sent_to.Given as goal

abbrev pub invariant-loop-entry : goal.invariant-loop-entry
invariant-loop-entry l = record {
  count : l.count + sent_to l.to.0 (drop l.entry-index l.entries) ≡ sent_to l.to.0 l.entries;
  bounded : l.count ≤ l.entry-index;
}
