use Rattle.std.proofs.Common.{◌∷◌, drop, rules}
use Rattle.rs_bodies.proofs.MarksPassed.{nat_leads, sort_in}
use Rattle.rs_bodies.proofs.marks.natural.Goals as goal

pub returns-in-110-clause-lead : goal.returns-in-110-clause-lead
returns-in-110-clause-lead c = sort_in c.args.bytes.now (110 ∷ 97 ∷ 116 ∷ 41 ∷ 46 ∷ drop 5 c.args.bytes.now) _ 5 (nat_leads (drop 5 c.args.bytes.now)) (search rules)
