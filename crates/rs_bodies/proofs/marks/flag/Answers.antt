use Rattle.std.proofs.Common.{◌∷◌, drop, rules}
use Rattle.rs_bodies.proofs.MarksPassed.{bool_leads, sort_in}
use Rattle.rs_bodies.proofs.marks.flag.Goals as goal

pub returns-in-98-clause-lead : goal.returns-in-98-clause-lead
returns-in-98-clause-lead c = sort_in c.args.bytes.now (98 ∷ 111 ∷ 111 ∷ 108 ∷ 41 ∷ 46 ∷ drop 6 c.args.bytes.now) _ 6 (bool_leads (drop 6 c.args.bytes.now)) (search rules)
