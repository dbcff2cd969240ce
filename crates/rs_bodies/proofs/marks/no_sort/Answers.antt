use Rattle.std.proofs.Common.{◌∷◌, drop, rules}
use Rattle.rs_bodies.proofs.MarksPassed.{no_sort_leads, sort_in}
use Rattle.rs_bodies.proofs.marks.no_sort.Goals as goal

pub returns-in-41-clause-lead : goal.returns-in-41-clause-lead
returns-in-41-clause-lead c = sort_in c.args.bytes.now (41 ∷ 46 ∷ drop 2 c.args.bytes.now) _ 2 (no_sort_leads (drop 2 c.args.bytes.now)) (search rules)
