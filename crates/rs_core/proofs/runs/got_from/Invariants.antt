use Rattle.std.proofs.Common.{◌≡◌, ◌+◌, ◌≤◌, drop}
use Rattle.rs_core.specs.Runs.{got_from}
use Rattle.rs_core.proofs.runs.got_from.Given as goal

abbrev pub invariant-loop-entry : goal.invariant-loop-entry
invariant-loop-entry l = record {
  count : l.count + got_from l.from.0 (drop l.entry-index l.entries) ≡ got_from l.from.0 l.entries;
  bounded : l.count ≤ l.entry-index;
}
