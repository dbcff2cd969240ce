use Rattle.std.proofs.Common.{◌∷◌, drop, rules}
use Rattle.rs_bodies.proofs.MarksPassed.{colon_passes, in_front}
use Rattle.rs_bodies.proofs.marks.colon.Goals as goal

pub returns-in-58-clause-lead : goal.returns-in-58-clause-lead
returns-in-58-clause-lead c = in_front c.args.dialect _ _ c.args.bytes.now (58 ∷ drop 1 c.args.bytes.now) 1 (colon_passes c.args.dialect (drop 1 c.args.bytes.now)) (search rules)
