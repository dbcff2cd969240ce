use Rattle.std.proofs.Common.{◌∷◌, drop, rules}
use Rattle.rs_bodies.proofs.MarksPassed.{close_dot_passes, in_front}
use Rattle.rs_bodies.proofs.marks.behind_sort.Goals as goal

pub returns-in-41-clause-lead : goal.returns-in-41-clause-lead
returns-in-41-clause-lead c = in_front c.args.dialect _ _ c.args.bytes.now (41 ∷ 46 ∷ drop 2 c.args.bytes.now) 2 (close_dot_passes c.args.dialect c.args.act c.args.label c.args.sort (drop 2 c.args.bytes.now)) (search rules)
