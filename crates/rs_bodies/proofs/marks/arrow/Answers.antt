use Rattle.std.proofs.Common.{◌∷◌, drop, rules}
use Rattle.rs_bodies.proofs.MarksPassed.{arrow_passes, in_talks}
use Rattle.rs_bodies.proofs.marks.arrow.Goals as goal

pub returns-in-45-clause-lead : goal.returns-in-45-clause-lead
returns-in-45-clause-lead c = in_talks c.args.dialect _ _ c.args.bytes.now (45 ∷ 62 ∷ drop 2 c.args.bytes.now) 2 c.in-Talks.is (arrow_passes c.args.from c.args.first (drop 2 c.args.bytes.now)) (search rules)
