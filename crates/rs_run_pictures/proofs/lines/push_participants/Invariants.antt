use Rattle.std.proofs.Common.{◌≡◌, ◌++◌, drop}
use Rattle.rs_pictures.specs.Sequences.{participants_text}
use Rattle.rs_run_pictures.proofs.lines.push_participants.Given as goal

abbrev pub invariant-loop-number : goal.invariant-loop-number
invariant-loop-number l = l.text ++ participants_text l.number (drop l.number l.roles) ≡ l.initial.text ++ participants_text 0 l.roles
