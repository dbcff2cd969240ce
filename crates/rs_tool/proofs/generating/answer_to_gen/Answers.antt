use Rattle.std.proofs.Common.{ap}
use Rattle.rs_answers.specs.Data.{Answer_data}
use Rattle.rs_tool.proofs.MadeReady.{piped}
use Rattle.rs_tool.proofs.generating.answer_to_gen.Goals as goal

pub returns : goal.returns
returns c =
    piped c.args.number c.in_ok-checked.checked _ _ _ (rw c.standard.ensures at
    (rw c.pipeline_of-pipeline.ensures at (rw c.in_ok-document.ensures at (rw c.as_slice.ensures at c.in_ok-checked.ensures)))) (rw c.pipeline_of-pipeline.ensures at c.in_ok-text.ensures)
    (rw (ap (λ (a : Answer_data). a.text) c.checked.view_is) at (rw c.as_slice-2.ensures at c.in_ok-push.ensures.ok)) (ap (λ (a : Answer_data). a.verdict) c.checked.view_is)
