use Rattle.std.proofs.Common.{◌++◌, codes, sym, ap, ◌∙◌, append_assoc}
use Rattle.rs_tool.specs.Pipelines.{sends_text}
use Rattle.rs_tool.proofs.Pieces.{one_send_more}
use Rattle.rs_tool.proofs.texts.push_sends.Goals as goal

pub loop-preserved : goal.loop-preserved
loop-preserved c =
    c.in_ok-push.ensures.ok ∙ ap (λ t. t ++ codes "R1!v(nat). ") c.loop.invariant ∙ append_assoc c.args.text.now (sends_text c.loop.counter) (codes "R1!v(nat). ")
    ∙ ap (λ t. c.args.text.now ++ t) (sym (one_send_more c.loop.counter))
