use Rattle.std.proofs.Common.{◌∷◌, drop, rules}
use Rattle.rs_bodies.proofs.MarksPassed.{in_front, rec_dot_passes}
use Rattle.rs_bodies.proofs.marks.rec_dot.Goals as goal

pub returns-in-46-clause-lead : goal.returns-in-46-clause-lead
returns-in-46-clause-lead c = in_front c.args.dialect _ _ c.args.bytes.now (46 ∷ drop 1 c.args.bytes.now) 1 (rec_dot_passes c.args.dialect c.args.from (drop 1 c.args.bytes.now)) (search rules)
