use Rattle.rs_exec.specs.Polling.{begun_by}
use Rattle.session_trials.proofs.of_rs_session.both_named.Given as goal

abbrev pub ghosts-both_blocked_on : goal.ghosts-both_blocked_on
ghosts-both_blocked_on g a = record { begun = begun_by a.session.now a.other }
