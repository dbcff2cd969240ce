use Rattle.std.proofs.Common.{rules, sym}
use Rattle.rs_bodies.proofs.reading.Reader.take_marks.Goals as goal

pub returns-in-Some-clause-passes : goal.returns-in-Some-clause-passes
returns-in-Some-clause-passes c =
    let passes = c.in-Some.ensures.lead c.args.bytes.now c.args.at c.args.self.now (sym c.split_at.ensures.back) (search rules) in
    search (passes, rules)
