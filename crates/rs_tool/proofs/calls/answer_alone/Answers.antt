use Rattle.std.proofs.Common.{◌≡◌, refl, sym, ◌∙◌}
use Rattle.rs_model.specs.declared.runs.Workers.TheVariants.{One}
use Rattle.rs_tool.proofs.MadeReady.{answers_nothing, answers_run, answers_stopped, not_asked}
use Rattle.rs_words.specs.Tasks.{workers_of}
use Rattle.rs_words.specs.Words.{bytes_of_words}
use Rattle.rs_tool.proofs.calls.answer_alone.Goals as goal

pub returns-in-Ok-None : goal.returns-in-Ok-None
returns-in-Ok-None g c =
    let none = rw c.in-Ok-None.field-0-is at c.in-Ok-None.ensures in (
      answers_nothing (bytes_of_words c.args.words.now) _ c.answer_to_nothing.result refl none c.answer_to_nothing.ensures.answer c.answer_to_nothing.ensures.read_fault,
      λ asks. absurd (none asks.0 asks.2),
    )

pub returns-in-Ok : goal.returns-in-Ok
returns-in-Ok g c =
    let words = bytes_of_words c.args.words.now in
    let spells = rw c.in-Ok-Some.field-0-is at c.in-Ok-Some.ensures in
    let one : workers_of c.in-Ok-Some.task ≡ One = sym c.workers.ensures ∙ c.in-One.is in
    let made = rw c.in-Ok.is at (rw one at (c.prepare.ensures words spells)) in (
      answers_run words _ One c.in-Ok.prepared c.run_alone.result c.answer_or_stop.result made
          c.answer_or_stop.ensures.answer c.answer_or_stop.ensures.read_fault c.run_alone.ensures,
      λ asks. absurd (not_asked words c.in-Ok-Some.task spells one asks),
    )

pub returns-in-Err-prepare : goal.returns-in-Err-prepare
returns-in-Err-prepare g c =
    let words = bytes_of_words c.args.words.now in
    let spells = rw c.in-Ok-Some.field-0-is at c.in-Ok-Some.ensures in
    let one : workers_of c.in-Ok-Some.task ≡ One = sym c.workers.ensures ∙ c.in-One.is in
    let made = rw c.in-Err-prepare.is at (c.prepare.ensures words spells) in (
      answers_stopped words _ (workers_of c.in-Ok-Some.task) c.in-Err-prepare.stop made,
      λ asks. absurd (not_asked words c.in-Ok-Some.task spells one asks),
    )
