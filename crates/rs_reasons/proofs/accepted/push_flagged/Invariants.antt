use Rattle.std.proofs.Common.{◌≡◌, ◌++◌, drop}
use Rattle.rs_reasons.specs.Flagged.{flagged_lines}
use Rattle.rs_reasons.proofs.accepted.push_flagged.Given as goal

abbrev pub invariant-loop-number : goal.invariant-loop-number
invariant-loop-number l =
    l.text ++ flagged_lines l.names l.role l.places l.number (drop l.number l.states) (drop l.number l.uses) ≡ l.initial.text ++ flagged_lines l.names l.role l.places 0 l.states l.uses
