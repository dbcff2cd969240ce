use Rattle.std.proofs.Common.{◌-◌, length}
use Rattle.rs_places.proofs.Standing.{Holds}
use Rattle.rs_places.proofs.finding.places_of.Given as goal

abbrev pub invariant-loop-first : goal.invariant-loop-first
invariant-loop-first l = Holds l.bytes l.roles l.finder l.first l.second

abbrev pub decreases-loop-first : goal.decreases-loop-first
decreases-loop-first l = length l.bytes - l.second.from
