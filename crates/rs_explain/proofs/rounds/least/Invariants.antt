use Rattle.std.proofs.Common.{◌≡◌, drop, None}
use Rattle.rs_explain.specs.KeptNodes.{least_of}
use Rattle.rs_explain.proofs.rounds.least.Given as goal

abbrev pub invariant-loop-i : goal.invariant-loop-i
invariant-loop-i l = least_of l.far l.least (drop l.i l.row) ≡ least_of l.far None l.row
