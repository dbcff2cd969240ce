use Rattle.std.proofs.Common.{◌∷◌, drop, rules}
use Rattle.rs_bodies.proofs.MarksPassed.{int_leads, sort_in}
use Rattle.rs_bodies.proofs.marks.whole.Goals as goal

pub returns-in-105-clause-lead : goal.returns-in-105-clause-lead
returns-in-105-clause-lead c = sort_in c.args.bytes.now (105 ∷ 110 ∷ 116 ∷ 41 ∷ 46 ∷ drop 5 c.args.bytes.now) _ 5 (int_leads (drop 5 c.args.bytes.now)) (search rules)
