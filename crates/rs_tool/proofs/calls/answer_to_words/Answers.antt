use Rattle.std.proofs.Common.{◌≡◌, refl, sym, ◌∙◌}
use Rattle.rs_model.specs.declared.runs.Workers.TheVariants.{One, Several}
use Rattle.rs_tool.proofs.MadeReady.{answers_nothing, answers_run, answers_stopped}
use Rattle.rs_words.specs.Tasks.{workers_of}
use Rattle.rs_words.specs.Words.{bytes_of_words}
use Rattle.rs_tool.proofs.calls.answer_to_words.Goals as goal

pub returns-in-Ok-None : goal.returns-in-Ok-None
returns-in-Ok-None g c =
    answers_nothing (bytes_of_words c.args.words.now) _ c.answer_to_nothing.result refl (rw c.in-Ok-None.field-0-is at c.in-Ok-None.ensures) c.answer_to_nothing.ensures.answer
    c.answer_to_nothing.ensures.read_fault

pub returns-in-Err-prepare : goal.returns-in-Err-prepare
returns-in-Err-prepare g c =
    let words = bytes_of_words c.args.words.now in
    let made = rw c.in-Err-prepare.is at (c.prepare.ensures words (rw c.in-Ok-Some.field-0-is at c.in-Ok-Some.ensures)) in
    answers_stopped words _ (workers_of c.in-Ok-Some.task) c.in-Err-prepare.stop made

pub returns-in-One : goal.returns-in-One
returns-in-One g c =
    let words = bytes_of_words c.args.words.now in
    let one : workers_of c.in-Ok-Some.task ≡ One = sym c.workers-workers.ensures ∙ c.in-One.is in
    let made = rw c.in-Ok.is at (rw one at (c.prepare.ensures words (rw c.in-Ok-Some.field-0-is at c.in-Ok-Some.ensures))) in
    answers_run words _ One c.in-Ok.prepared c.run_alone.result c.answer_or_stop.result made
    c.answer_or_stop.ensures.answer c.answer_or_stop.ensures.read_fault c.run_alone.ensures

pub returns-in-Several : goal.returns-in-Several
returns-in-Several g c =
    let words = bytes_of_words c.args.words.now in
    let several : workers_of c.in-Ok-Some.task ≡ Several c.in-Several.crew = sym c.workers-workers.ensures ∙ c.in-Several.is in
    let made = rw c.in-Ok.is at (rw several at (c.prepare.ensures words (rw c.in-Ok-Some.field-0-is at c.in-Ok-Some.ensures))) in
    answers_run words _ (Several c.in-Several.crew) c.in-Ok.prepared c.run_by_crew.result
    c.answer_or_stop-in-Several.result made c.answer_or_stop-in-Several.ensures.answer c.answer_or_stop-in-Several.ensures.read_fault c.run_by_crew.ensures
