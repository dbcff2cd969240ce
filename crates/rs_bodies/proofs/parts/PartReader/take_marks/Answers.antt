use Rattle.rs_bodies.proofs.TurnsSeen.{passes_if, refuses_if}
use Rattle.rs_bodies.proofs.parts.PartReader.take_marks.Goals as goal

pub returns-clause-passes : goal.returns-clause-passes
returns-clause-passes c = passes_if c.args.self.now.dialect c.args.bytes.now c.args.at c.args.self.now.reader c.take_marks.new.self c.take_marks.result c.take_marks.ensures.passes

pub returns-clause-err : goal.returns-clause-err
returns-clause-err c = refuses_if c.args.self.now.dialect c.args.bytes.now c.args.at c.args.self.now.reader c.take_marks.new.self c.take_marks.result c.take_marks.ensures.err
