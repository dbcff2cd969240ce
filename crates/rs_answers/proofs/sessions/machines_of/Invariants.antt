use Rattle.std.proofs.Common.{◌≡◌, ◌++◌, drop}
use Rattle.rs_answers.specs.Sessions.{machines_of}
use Rattle.rs_answers.proofs.sessions.machines_of.Given as goal

abbrev pub invariant-loop-place : goal.invariant-loop-place
invariant-loop-place l = l.machines.items ++ machines_of (drop l.place l.own) (drop l.place l.projections) ≡ machines_of l.own l.projections
