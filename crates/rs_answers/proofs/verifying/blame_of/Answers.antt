use Rattle.rs_answers.proofs.verifying.blame_of.Goals as goal

pub check-requires-clause-bound : goal.check-requires-clause-bound
check-requires-clause-bound c = (c.requires.checkable.bounded c.in-Some.derivation c.in-Some.is).bound
