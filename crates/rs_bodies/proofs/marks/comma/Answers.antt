use Rattle.std.proofs.Common.{◌∷◌, drop, rules}
use Rattle.rs_bodies.proofs.MarksPassed.{comma_further, in_front}
use Rattle.rs_bodies.proofs.marks.comma.Goals as goal

pub returns-in-44-clause-lead : goal.returns-in-44-clause-lead
returns-in-44-clause-lead c = in_front c.args.dialect _ _ c.args.bytes.now (44 ∷ drop 1 c.args.bytes.now) 1 (comma_further c.args.dialect (drop 1 c.args.bytes.now)) (search rules)
