use Rattle.rs_exec.specs.Polling.{begun_by}
use Rattle.session_trials.proofs.of_rs_session.both_polled.Given as goal

abbrev pub ghosts-both_named : goal.ghosts-both_named
ghosts-both_named g a = record { begun = begun_by a.session.now a.one }
