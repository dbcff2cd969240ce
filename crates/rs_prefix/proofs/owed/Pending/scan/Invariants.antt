use Rattle.std.proofs.Common.{◌≡◌, drop}
use Rattle.rs_prefix.specs.Search.{earliest, earliest_from}
use Rattle.rs_prefix.proofs.owed.Pending.scan.Given as goal

abbrev pub invariant-loop-place : goal.invariant-loop-place
invariant-loop-place l = earliest_from (drop l.place l.self) l.kind l.peer l.place ≡ earliest l.self l.kind l.peer
