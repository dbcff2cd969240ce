use Rattle.std.proofs.Common.{◌-◌, ◌++◌, codes, ap, ◌∙◌}
use Rattle.std.proofs.lemmas.Result.{on_ok_weaker}
use Rattle.rs_tool.specs.Pipelines.{loop_name, numbered_role}
use Rattle.rs_tool.proofs.Pieces.{six_grouped}
use Rattle.rs_tool.proofs.texts.push_loop.Goals as goal

pub returns : goal.returns
returns c =
    let two = c.in_ok-push_loop_name.ensures ∙ ap (λ t. t ++ loop_name c.args.pipeline) c.in_ok-push.ensures.ok in
    let four = c.in_ok-push_role.ensures ∙ ap (λ t. t ++ numbered_role (c.args.pipeline.roles - 1)) (c.in_ok-push-2.ensures.ok ∙ ap (λ t. t ++ codes ". R1!v(nat). ") two) in
    let five = c.in_ok-push-3.ensures.ok ∙ ap (λ t. t ++ codes "?ack(). ") four in
    on_ok_weaker c.push_loop_name-2.result (λ h. h ∙ ap (λ t. t ++ loop_name c.args.pipeline) five
    ∙ six_grouped c.args.text.now (codes "rec ") (loop_name c.args.pipeline) (codes ". R1!v(nat). ") (numbered_role (c.args.pipeline.roles - 1)) (codes "?ack(). ") (loop_name c.args.pipeline))
    c.push_loop_name-2.ensures
