use Rattle.std.proofs.Common.{◌∙◌}
use Rattle.std.proofs.lemmas.Result.{IfOk-weaker}
use Rattle.rs_words.specs.Meaning.{draw_run_task}
use Rattle.rs_words.proofs.meaning.draw_run_task_in.Goals as goal

pub returns : goal.returns
returns c = IfOk-weaker c.draw_run_task.result _ _ (λ r h. h ∙ (λ i. draw_run_task (c.text_found.ensures i) (c.text_found-2.ensures i) (c.text_found-3.ensures i) (c.text_found-4.ensures i)))
    c.draw_run_task.ensures
