use Rattle.std.proofs.Common.{◌≡◌, ◌++◌, None, drop}
use Rattle.rs_run_pictures.specs.Lines.{acts_text}
use Rattle.rs_run_pictures.proofs.lines.push_acts_lines.Given as goal

abbrev pub invariant-loop-place : goal.invariant-loop-place
invariant-loop-place l = l.text ++ acts_text l.names l.before (drop l.place l.acts) ≡ l.initial.text ++ acts_text l.names None l.acts
