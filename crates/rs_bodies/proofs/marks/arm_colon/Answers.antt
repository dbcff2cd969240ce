use Rattle.std.proofs.Common.{◌∷◌, drop, rules}
use Rattle.rs_bodies.proofs.MarksPassed.{arms_colon_passes, in_talks}
use Rattle.rs_bodies.proofs.marks.arm_colon.Goals as goal

pub returns-in-58-clause-lead : goal.returns-in-58-clause-lead
returns-in-58-clause-lead c = in_talks c.args.dialect _ _ c.args.bytes.now (58 ∷ drop 1 c.args.bytes.now) 1 c.in-Talks.is (arms_colon_passes c.args.act (drop 1 c.args.bytes.now)) (search rules)
