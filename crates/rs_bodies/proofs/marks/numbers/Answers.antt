use Rattle.std.proofs.Common.{◌∷◌, drop, rules}
use Rattle.rs_bodies.proofs.MarksPassed.{list_leads, sort_in}
use Rattle.rs_bodies.proofs.marks.numbers.Goals as goal

pub returns-in-108-clause-lead : goal.returns-in-108-clause-lead
returns-in-108-clause-lead c = sort_in c.args.bytes.now (108 ∷ 105 ∷ 115 ∷ 116 ∷ 41 ∷ 46 ∷ drop 6 c.args.bytes.now) _ 6 (list_leads (drop 6 c.args.bytes.now)) (search rules)
