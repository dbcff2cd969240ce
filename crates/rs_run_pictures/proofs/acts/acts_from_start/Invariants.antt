use Rattle.std.proofs.Common.{◌≡◌, ◌++◌, drop}
use Rattle.rs_run_pictures.specs.Acts.{acts_from}
use Rattle.rs_run_pictures.proofs.acts.acts_from_start.Given as goal

abbrev pub invariant-loop-entry : goal.invariant-loop-entry
invariant-loop-entry l = l.acts.items ++ acts_from l.machine l.state (drop l.entry-index l.entries) ≡ acts_from l.machine l.machine.start l.entries
