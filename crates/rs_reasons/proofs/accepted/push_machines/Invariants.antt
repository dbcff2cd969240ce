use Rattle.std.proofs.Common.{◌≡◌, ◌++◌, drop, map}
use Rattle.rs_reasons.specs.Accepted.{machines_lines}
use Rattle.rs_reasons.proofs.accepted.push_machines.Given as goal

abbrev pub invariant-loop-role : goal.invariant-loop-role
invariant-loop-role l =
    l.text ++ machines_lines l.names (map (λ m. m.items) l.places) l.role (drop l.role l.machines) (drop l.role l.projections) (drop l.role l.derivations)
    ≡ l.initial.text ++ machines_lines l.names (map (λ m. m.items) l.places) 0 l.machines l.projections l.derivations
