use Rattle.rs_bodies.proofs.MarksPassed.{open_paren_passes, parens_pass}
use Rattle.rs_bodies.proofs.marks.behind_paren.Goals as goal

pub returns-in-Some-clause-lead : goal.returns-in-Some-clause-lead
returns-in-Some-clause-lead c = parens_pass c.args.dialect c.args.act c.args.label c.in-Some.seen.sort c.args.behind.now c.in-Some.seen.size c.in-Some.ensures.lead

pub returns-in-None-clause-lead : goal.returns-in-None-clause-lead
returns-in-None-clause-lead c = open_paren_passes c.args.dialect c.args.act c.args.label c.args.behind.now
