use Rattle.std.proofs.Common.{◌∷◌, drop, rules}
use Rattle.rs_bodies.proofs.MarksPassed.{bytes_leads, sort_in}
use Rattle.rs_bodies.proofs.marks.octets.Goals as goal

pub returns-in-98-clause-lead : goal.returns-in-98-clause-lead
returns-in-98-clause-lead c = sort_in c.args.bytes.now (98 ∷ 121 ∷ 116 ∷ 101 ∷ 115 ∷ 41 ∷ 46 ∷ drop 7 c.args.bytes.now) _ 7 (bytes_leads (drop 7 c.args.bytes.now)) (search rules)
