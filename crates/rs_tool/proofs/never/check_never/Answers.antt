use Rattle.std.proofs.Common.{refl}
use Rattle.rs_tool.proofs.NeverFailing.{answer_of, check_needs_no_workers, left_at_end, never_rises, no_fault}
use Rattle.rs_words.specs.Words.{bytes_of_words}
use Rattle.rs_tool.proofs.never.check_never.Goals as goal

pub unreachable-requires : goal.unreachable-requires
unreachable-requires c =
    let needs = rw c.in-NeedsWorkers.is at c.command_serial.ensures.ends in
    check_needs_no_workers (bytes_of_words c.args.words.now) c.requires.words needs.0

pub returns-clause-no_fault : goal.returns-clause-no_fault
returns-clause-no_fault c = no_fault _ _ _ c.in-Answered.reply c.requires.words (rw c.in-Answered.is at c.command_serial.ensures.ends).0 never_rises never_rises

pub returns-clause-answer : goal.returns-clause-answer
returns-clause-answer c = answer_of _ _ _ c.in-Answered.reply c.requires.words (rw c.in-Answered.is at c.command_serial.ensures.ends).0 never_rises never_rises _ refl

pub returns-clause-end : goal.returns-clause-end
returns-clause-end c = left_at_end _ _ _ c.in-Answered.reply c.requires.words (rw c.in-Answered.is at c.command_serial.ensures.ends).0 never_rises never_rises _ refl
