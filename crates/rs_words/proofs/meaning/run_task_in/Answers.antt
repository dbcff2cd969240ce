use Rattle.std.proofs.Common.{◌∙◌}
use Rattle.std.proofs.lemmas.Result.{IfOk-weaker}
use Rattle.rs_words.specs.Meaning.{run_task}
use Rattle.rs_words.proofs.meaning.run_task_in.Goals as goal

pub returns : goal.returns
returns c = IfOk-weaker c.run_task.result _ _ (λ r h. h ∙ (λ i. run_task (c.text_found.ensures i) (c.text_found-2.ensures i) (c.text_found-3.ensures i) (c.text_found-4.ensures i)
    (c.text_found-5.ensures i))) c.run_task.ensures
