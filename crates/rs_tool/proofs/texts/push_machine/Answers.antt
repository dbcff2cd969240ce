use Rattle.std.proofs.Common.{◌++◌, codes, ap, ◌∙◌}
use Rattle.std.proofs.lemmas.Result.{on_ok_weaker}
use Rattle.rs_tool.specs.Pipelines.{loop_text, sends_text}
use Rattle.rs_tool.proofs.Pieces.{four_grouped}
use Rattle.rs_tool.proofs.texts.push_machine.Goals as goal

pub returns : goal.returns
returns c =
    let two = c.in_ok-push_sends.ensures ∙ ap (λ t. t ++ sends_text c.args.pipeline.ahead) c.in_ok-push.ensures.ok in
    let three = c.in_ok-push_loop.ensures ∙ ap (λ t. t ++ loop_text c.args.pipeline) two in
    on_ok_weaker c.push-2.result (λ h. h ∙ ap (λ t. t ++ codes "\n") three
    ∙ four_grouped c.args.text.now (codes "machine R0: ") (sends_text c.args.pipeline.ahead) (loop_text c.args.pipeline) (codes "\n")) c.push-2.ensures.ok
