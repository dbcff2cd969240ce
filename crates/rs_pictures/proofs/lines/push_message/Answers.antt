use Rattle.std.proofs.Common.{◌++◌, codes, ap, ◌∙◌}
use Rattle.std.proofs.lemmas.Result.{on_ok_weaker}
use Rattle.rs_text.specs.NamePlaces.{name_at}
use Rattle.rs_text.specs.Shown.{shown_sort}
use Rattle.rs_pictures.specs.Lines.{indent, message, says_text}
use Rattle.rs_pictures.proofs.Pieces.{three_grouped}
use Rattle.rs_pictures.proofs.lines.push_message.Goals as goal

pub returns : goal.returns
returns c = λ roles.
    let words = says_text roles (message c.args.sender c.args.receiver (name_at c.args.names.now.labels c.args.arm.label.0) (shown_sort c.args.arm.sort)) in
    on_ok_weaker c.push.result (λ h. h ∙ ap (λ z. z ++ codes "\n") (c.in_ok-push_words.ensures roles ∙ ap (λ z. z ++ words) c.in_ok-push_indent.ensures)
    ∙ three_grouped c.args.text.now (indent c.args.depth) words (codes "\n")) c.push.ensures.ok
