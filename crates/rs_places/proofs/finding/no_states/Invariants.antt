use Rattle.std.proofs.Common.{◌≡◌, [], map, replicate}
use Rattle.rs_places.proofs.finding.no_states.Given as goal

abbrev pub invariant-loop : goal.invariant-loop
invariant-loop l = map (λ m. m.items) l.machines.items ≡ replicate l.counter []
