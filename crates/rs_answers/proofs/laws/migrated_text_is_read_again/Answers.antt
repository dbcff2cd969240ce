use Rattle.rs_answers.proofs.Migrated.{prints_again, reads_again, verifies_again}
use Rattle.rs_answers.proofs.laws.migrated_text_is_read_again.Goals as goal

pub returns-clause-same : goal.returns-clause-same
returns-clause-same c = reads_again

pub returns-clause-verified : goal.returns-clause-verified
returns-clause-verified c = verifies_again

pub returns-clause-migrated : goal.returns-clause-migrated
returns-clause-migrated c = prints_again
