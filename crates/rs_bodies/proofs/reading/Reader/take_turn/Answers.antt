use Rattle.std.proofs.Common.{◌∙◌, sym}
use Rattle.rs_bodies.proofs.MarksFed.{act_stands, passes_by}
use Rattle.rs_bodies.proofs.reading.Reader.take_turn.Goals as goal

pub returns-in_ok-begin_act-in-Some-clause-passes : goal.returns-in_ok-begin_act-in-Some-clause-passes
returns-in_ok-begin_act-in-Some-clause-passes c =
    passes_by c.args.dialect c.args.bytes.now c.args.at c.args.self.now c.begin_act.new.self _
    (act_stands c.args.dialect c.args.bytes.now c.in-Some.ensures.1.0 c.args.at c.args.from c.args.peer c.in-Some.mark c.args.self.now c.in-Some.ensures.0 (sym c.split_at.ensures.back ∙ c.in-Some.ensures.1.1) c.requires.mode)
    c.in_ok-begin_act-in-Some.ensures
