use Rattle.std.proofs.Common.{length}
use Rattle.rs_answers.proofs.verifying.+first_blame.Given as goal

abbrev pub decreases-first_blame : goal.decreases-first_blame
decreases-first_blame l = length l.own.now
