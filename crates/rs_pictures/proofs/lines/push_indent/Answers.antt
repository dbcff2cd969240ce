use Rattle.std.proofs.Common.{◌++◌, codes, sym, ap, ◌∙◌, append_assoc}
use Rattle.rs_pictures.specs.Lines.{indent}
use Rattle.rs_pictures.proofs.Pieces.{one_level_more}
use Rattle.rs_pictures.proofs.lines.push_indent.Goals as goal

pub loop-preserved : goal.loop-preserved
loop-preserved c =
    c.in_ok-push.ensures.ok ∙ ap (λ t. t ++ codes "    ") c.loop.invariant ∙ append_assoc c.args.text.now (indent c.loop.counter) (codes "    ")
    ∙ ap (λ t. c.args.text.now ++ t) (sym (one_level_more c.loop.counter))
