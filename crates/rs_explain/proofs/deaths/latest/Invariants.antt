use Rattle.std.proofs.Common.{◌≡◌, drop, Some}
use Rattle.rs_explain.specs.Deaths.{latest_of}
use Rattle.rs_explain.proofs.deaths.latest.Given as goal

abbrev pub invariant-loop-i : goal.invariant-loop-i
invariant-loop-i l = latest_of l.far l.latest (drop l.i l.row) ≡ latest_of l.far (Some 0) l.row
