use Rattle.rs_tool.proofs.Answering.{ends_delivered, ends_unchanged}
use Rattle.rs_tool.proofs.calls.carry_out.Goals as goal

pub returns-in-Answered : goal.returns-in-Answered
returns-in-Answered g c = (rw c.in-Answered.is at c.command_serial.ensures.ends).0

pub returns-in-NeedsWorkers : goal.returns-in-NeedsWorkers
returns-in-NeedsWorkers g c =
    let needs = rw c.in-NeedsWorkers.is at c.command_serial.ensures.ends in
    ends_unchanged g.S.Source.left g.S.Source.faults g.S.Source.last g.K.Sink.written g.K.Sink.faults g.K.Sink.last _ _ _ _ _ _ _ _
    needs.1 needs.2 (ends_delivered _ _ _ _ _ c.answer_to_words-given.ensures c.deliver.ensures)
