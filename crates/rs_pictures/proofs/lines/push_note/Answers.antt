use Rattle.std.proofs.Common.{◌++◌, ◌-◌, codes, ap, ◌∙◌}
use Rattle.std.proofs.lemmas.Result.{on_ok_weaker}
use Rattle.rs_pictures.specs.Lines.{indent, participant}
use Rattle.rs_pictures.proofs.Pieces.{four_grouped}
use Rattle.rs_pictures.proofs.lines.push_note.Goals as goal

pub returns : goal.returns
returns c =
    let last = participant (c.args.roles - 1) in
    on_ok_weaker c.push-2.result (λ h. h ∙ ap (λ z. z ++ codes ": ") ((c.in_ok-push_participant.ensures ∙ ap (λ z. c.push.new.self ++ participant z) c.from.ensures)
    ∙ ap (λ z. z ++ last) (c.in_ok-push.ensures.ok ∙ ap (λ z. z ++ codes "Note over R0,") c.in_ok-push_indent.ensures))
    ∙ four_grouped c.args.text.now (indent c.args.depth) (codes "Note over R0,") last (codes ": ")) c.push-2.ensures.ok
