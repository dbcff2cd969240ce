use Rattle.std.proofs.Common.{◌≡◌, drop}
use Rattle.rs_text.specs.Names.{differ}
use Rattle.rs_text.proofs.names.differ.Given as goal

abbrev pub invariant-loop-place : goal.invariant-loop-place
invariant-loop-place l = differ (drop l.place l.names) ≡ differ l.names
